-- A part's state and decision, as what has come says them, and how one event changes both.
use Rattle.std.proofs.Common.{◌≡◌, ℕ, Bool, true, false, not, ◌&&◌, ◌||◌, ◌==◌, cond, List, [], ◌∷◌, Option, Some, None, refl, ap, ◌∙◌}
use Rattle.std.specs.Option.{option_or}
use Rattle.rs_commit.specs.declared.event.CommitEvent.{CommitEvent}
use Rattle.rs_commit.specs.declared.event.CommitEvent.TheVariants as events
use Rattle.rs_commit.specs.declared.event.Decision.{Decision}
use Rattle.rs_commit.specs.declared.event.Decision.TheVariants as decisions
use Rattle.rs_commit.specs.declared.event.Settlement.{Settlement}
use Rattle.rs_commit.specs.declared.event.Settlement.TheVariants as settlements
use Rattle.rs_commit.specs.declared.subordinate.Subordinate.{Subordinate}
use Rattle.rs_commit.specs.declared.subordinate.Subordinate.TheVariants as states
use Rattle.rs_commit.specs.declared.part.Part.{Part}
use Rattle.rs_commit.specs.declared.part.Master.{Master}
use Rattle.rs_commit.specs.Decisions.{has_come, has_stopped, has_given_up, is_dropped, has_prepared, settled, by_commit, by_abort, by_inquiry, decides, decision}
use Rattle.rs_commit.specs.Play.{part_prepared, part_committed, part_aborted, part_lost, told_abort, part_told_commit, part_inquired, part_after}
use Rattle.rs_commit.specs.Subordinate.{is_prepared}
use Rattle.rs_commit.proofs.Facts.{Facts}
use Rattle.rs_commit.proofs.Tests.{or_false, or_none}

abbrev pub state_of : Option Decision → Bool → Bool → Subordinate
state_of (Some decisions.Commit) prepared lost = states.Committed
state_of (Some decisions.Abort) prepared lost = states.Aborted
state_of None true lost = states.Prepared
state_of None false true = states.Aborted
state_of None false false = states.Working

-- a part that decided, prepared, was stopped and was dropped, or not
abbrev pub part_with : Option Decision → Bool → Bool → Bool → Part
part_with d p s r = record { state = state_of d p (s || r); decided = d }

-- the part after these events
unfoldable pub part_at : ℕ → ℕ → List CommitEvent → Part
part_at parts part h = part_with (decision parts part h) (has_prepared part h) (has_stopped part h) (is_dropped part h)

-- the master after these events
abbrev pub master_at : ℕ → List CommitEvent → Master
master_at parts h = record { settled = settled parts h; gave_up = has_given_up h }

-- ---- one step, over plain values

nothing : (d : Option Decision) (p s r : Bool) → part_with (option_or d None) (p || false) (s || false) (r || false) ≡ part_with d p s r
nothing d p s r = λ i. part_with (or_none d i) (or_false p i) (or_false s i) (or_false r i)

prepare_step : (d : Option Decision) (b p s r : Bool)
    → part_with (option_or d None) (p || (b && not (s || r))) (s || false) (r || false) ≡ cond b (part_prepared (part_with d p s r)) (part_with d p s r)
prepare_step d false p s r = nothing d p s r
prepare_step (Some decisions.Commit) true p s r = refl
prepare_step (Some decisions.Abort) true p s r = refl
prepare_step None true true s r = refl
prepare_step None true false true r = refl
prepare_step None true false false true = refl
prepare_step None true false false false = refl

stop_step : (d : Option Decision) (b p s r : Bool)
    → part_with (option_or d None) (p || false) (s || b) (r || false) ≡ cond b (part_lost (part_with d p s r)) (part_with d p s r)
stop_step d false p s r = nothing d p s r
stop_step (Some decisions.Commit) true p s r = refl
stop_step (Some decisions.Abort) true p s r = refl
stop_step None true true s r = refl
stop_step None true false true r = refl
stop_step None true false false true = refl
stop_step None true false false false = refl

commit_step : (z : Option Settlement) (d : Option Decision) (b p s r : Bool) → (z ≡ Some settlements.Decided → p ≡ true)
    → part_with (option_or d (cond b (by_commit z) None)) (p || false) (s || false) (r || false) ≡ cond b (part_told_commit z (part_with d p s r)) (part_with d p s r)
commit_step z d false p s r ok = nothing d p s r
commit_step None d true p s r ok = nothing d p s r
commit_step (Some settlements.GivenUp) d true p s r ok = nothing d p s r
commit_step (Some settlements.Stopped) d true p s r ok = nothing d p s r
commit_step (Some settlements.Decided) (Some decisions.Commit) true p s r ok = refl
commit_step (Some settlements.Decided) (Some decisions.Abort) true p s r ok = refl
commit_step (Some settlements.Decided) None true true s r ok = refl
commit_step (Some settlements.Decided) None true false s r ok = let e : false ≡ true = ok refl in absurd cc

-- an Abort that doesn't abort the part loses it, if the master has given up
drop_step : (d : Option Decision) (g p s r : Bool)
    → part_with (option_or d None) (p || false) (s || false) (r || g) ≡ cond g (part_lost (part_with d p s r)) (part_with d p s r)
drop_step d false p s r = nothing d p s r
drop_step (Some decisions.Commit) true p s r = refl
drop_step (Some decisions.Abort) true p s r = refl
drop_step None true true s r = refl
drop_step None true false true r = refl
drop_step None true false false true = refl
drop_step None true false false false = refl

abort_step : (z : Option Settlement) (d : Option Decision) (b g p s r : Bool) → (r ≡ true → z ≡ Some settlements.GivenUp → d ≡ None → s ≡ true)
    → part_with (option_or d (cond b (by_abort z p s) None)) (p || false) (s || false) (r || (b && g)) ≡ cond b (told_abort z g (part_with d p s r)) (part_with d p s r)
abort_step z d false g p s r ok = nothing d p s r
abort_step None d true g p s r ok = drop_step d g p s r
abort_step (Some settlements.Decided) d true g p s r ok = drop_step d g p s r
abort_step (Some settlements.Stopped) d true g p s r ok = drop_step d g p s r
abort_step (Some settlements.GivenUp) (Some decisions.Commit) true g p s r ok = refl
abort_step (Some settlements.GivenUp) (Some decisions.Abort) true g p s r ok = refl
abort_step (Some settlements.GivenUp) None true g true s r ok = refl
abort_step (Some settlements.GivenUp) None true g false true r ok = refl
abort_step (Some settlements.GivenUp) None true g false false true ok = let e : false ≡ true = ok refl refl refl in absurd cc
abort_step (Some settlements.GivenUp) None true g false false false ok = refl

-- a prepared part aborts if the master knows nothing
presume_step : (d : Option Decision) (p s r : Bool)
    → part_with (option_or d (cond p (Some decisions.Abort) None)) (p || false) (s || false) (r || false) ≡ cond (is_prepared (state_of d p (s || r))) (part_aborted (part_with d p s r)) (part_with d p s r)
presume_step (Some decisions.Commit) p s r = refl
presume_step (Some decisions.Abort) p s r = refl
presume_step None true s r = refl
presume_step None false true r = refl
presume_step None false false true = refl
presume_step None false false false = refl

inquire_step : (z : Option Settlement) (d : Option Decision) (b p s r : Bool) → (z ≡ Some settlements.Decided → p ≡ true)
    → part_with (option_or d (cond b (by_inquiry z p) None)) (p || false) (s || false) (r || false) ≡ cond b (part_inquired z (part_with d p s r)) (part_with d p s r)
inquire_step z d false p s r ok = nothing d p s r
inquire_step None d true p s r ok = nothing d p s r
inquire_step (Some settlements.Decided) d true p s r ok = commit_step (Some settlements.Decided) d true p s r ok
inquire_step (Some settlements.GivenUp) d true p s r ok = presume_step d p s r
inquire_step (Some settlements.Stopped) d true p s r ok = presume_step d p s r

-- ---- one step of a part

-- the event is one of this part's
abbrev pub is_for : ℕ → CommitEvent → Bool
is_for part (events.Prepare i) = part == i
is_for part (events.Commit i) = part == i
is_for part (events.Abort i) = part == i
is_for part (events.Inquire i) = part == i
is_for part (events.StopPart i) = part == i
is_for part (events.Vote i) = false
is_for part events.Decide = false
is_for part events.GiveUp = false
is_for part (events.Ack i) = false
is_for part events.StopMaster = false

pub part_more : (n j : ℕ) (x : CommitEvent) (h : List CommitEvent) → Facts n j h
    → part_at n j (x ∷ h) ≡ cond (is_for j x) (part_after x (master_at n h) (part_at n j h)) (part_at n j h)
unfolding part_at decision has_prepared has_stopped is_dropped
part_more n j (events.Prepare i) h facts = prepare_step (decision n j h) (j == i) (has_prepared j h) (has_stopped j h) (is_dropped j h)
part_more n j (events.Commit i) h facts = commit_step (settled n h) (decision n j h) (j == i) (has_prepared j h) (has_stopped j h) (is_dropped j h) facts.decided
part_more n j (events.Abort i) h facts = abort_step (settled n h) (decision n j h) (j == i) (has_given_up h) (has_prepared j h) (has_stopped j h) (is_dropped j h) facts.aborted
part_more n j (events.Inquire i) h facts = inquire_step (settled n h) (decision n j h) (j == i) (has_prepared j h) (has_stopped j h) (is_dropped j h) facts.decided
part_more n j (events.StopPart i) h facts = stop_step (decision n j h) (j == i) (has_prepared j h) (has_stopped j h) (is_dropped j h)
part_more n j (events.Vote i) h facts = nothing (decision n j h) (has_prepared j h) (has_stopped j h) (is_dropped j h)
part_more n j events.Decide h facts = nothing (decision n j h) (has_prepared j h) (has_stopped j h) (is_dropped j h)
part_more n j events.GiveUp h facts = nothing (decision n j h) (has_prepared j h) (has_stopped j h) (is_dropped j h)
part_more n j (events.Ack i) h facts = nothing (decision n j h) (has_prepared j h) (has_stopped j h) (is_dropped j h)
part_more n j events.StopMaster h facts = nothing (decision n j h) (has_prepared j h) (has_stopped j h) (is_dropped j h)

-- before the master settles, a part is prepared exactly if a Prepare took
pub prepared_at : (n j : ℕ) (h : List CommitEvent) → Facts n j h → settled n h ≡ None → is_prepared (part_at n j h).state ≡ has_prepared j h
unfolding part_at
prepared_at n j h facts none = rw (facts.undecided none) (of_state (has_prepared j h) (has_stopped j h || is_dropped j h))
  where
    of_state : (p l : Bool) → is_prepared (state_of None p l) ≡ p
    of_state true l = refl
    of_state false true = refl
    of_state false false = refl
