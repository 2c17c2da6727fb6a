-- The laws of decisions.
use Rattle.std.proofs.Common.{◌≡◌, ℕ, ◌<◌, ◌≤◌, Bool, true, false, not, ◌&&◌, ◌||◌, ◌==◌, cond, List, [], ◌∷◌, ◌++◌, reverse, Option, Some, None, refl, sym, ap, ◌∙◌, ◌⊎◌, inl, inr}
use Rattle.std.proofs.lemmas.Bool.{cases_lt, or_cases, or_parts, and_parts, not-true, eqb-true}
use Rattle.std.proofs.lemmas.Option.{same_Some}
use Rattle.std.specs.Option.{option_or, option_map}
use Rattle.std.specs.Prelude.{slice_get}
use Rattle.rs_commit.specs.declared.event.CommitEvent.{CommitEvent}
use Rattle.rs_commit.specs.declared.event.CommitEvent.TheVariants as events
use Rattle.rs_commit.specs.declared.event.Decision.{Decision}
use Rattle.rs_commit.specs.declared.event.Decision.TheVariants as decisions
use Rattle.rs_commit.specs.declared.event.Settlement.{Settlement}
use Rattle.rs_commit.specs.declared.event.Settlement.TheVariants as settlements
use Rattle.rs_commit.specs.Decisions.{is_prepare, is_vote, has_stopped, is_dropped, has_prepared, has_voted, have_all_voted, settles, settled, by_commit, by_abort, by_inquiry, decides, decision, decisions_after}
use Rattle.rs_commit.specs.Laws.{NoTwoDiffer, DecisionStays, CommitNeedsEachVote, Came, PreparedAndVoted, CommittedByAll, NoneDiffer, CommitIsVotedFor}
use Rattle.rs_commit.proofs.Facts.{decision_more, settled_more, voted_more, prepared_more, none_decided, none_settled, none_voted, none_prepared, settles_decided}
use Rattle.rs_commit.proofs.Ranges.{each_in_range, value_at, value_past}
use Rattle.rs_commit.proofs.Tests.{either_some, first_stays}

-- ---- a decision is the one that the settlement stands for

abbrev verdict : Settlement → Decision
verdict settlements.Decided = decisions.Commit
verdict settlements.GivenUp = decisions.Abort
verdict settlements.Stopped = decisions.Abort

chosen : {A : Type 0} (b : Bool) (y : Option A) (d : A) → cond b y None ≡ Some d → y ≡ Some d
chosen true y d e = e
chosen false y d e = absurd cc

commit_verdict : (z : Option Settlement) (d : Decision) → by_commit z ≡ Some d → option_map verdict z ≡ Some d
commit_verdict (Some settlements.Decided) d e = e
commit_verdict (Some settlements.GivenUp) d e = absurd cc
commit_verdict (Some settlements.Stopped) d e = absurd cc
commit_verdict None d e = absurd cc

aborts : (b : Bool) (d : Decision) → cond b None (Some decisions.Abort) ≡ Some d → Some decisions.Abort ≡ Some d
aborts true d e = absurd cc
aborts false d e = e

abort_verdict : (z : Option Settlement) (p s : Bool) (d : Decision) → by_abort z p s ≡ Some d → option_map verdict z ≡ Some d
abort_verdict (Some settlements.GivenUp) p s d e = aborts (not p && s) d e
abort_verdict (Some settlements.Decided) p s d e = absurd cc
abort_verdict (Some settlements.Stopped) p s d e = absurd cc
abort_verdict None p s d e = absurd cc

inquiry_verdict : (z : Option Settlement) (p : Bool) (d : Decision) → by_inquiry z p ≡ Some d → option_map verdict z ≡ Some d
inquiry_verdict (Some settlements.Decided) p d e = e
inquiry_verdict (Some settlements.GivenUp) p d e = chosen p (Some decisions.Abort) d e
inquiry_verdict (Some settlements.Stopped) p d e = chosen p (Some decisions.Abort) d e
inquiry_verdict None p d e = absurd cc

decides_verdict : (n j : ℕ) (x : CommitEvent) (h : List CommitEvent) (d : Decision) → decides n j x h ≡ Some d → option_map verdict (settled n h) ≡ Some d
decides_verdict n j (events.Commit i) h d e = commit_verdict (settled n h) d (chosen (j == i) (by_commit (settled n h)) d e)
decides_verdict n j (events.Abort i) h d e = abort_verdict (settled n h) (has_prepared j h) (has_stopped j h) d (chosen (j == i) (by_abort (settled n h) (has_prepared j h) (has_stopped j h)) d e)
decides_verdict n j (events.Inquire i) h d e = inquiry_verdict (settled n h) (has_prepared j h) d (chosen (j == i) (by_inquiry (settled n h) (has_prepared j h)) d e)
decides_verdict n j (events.Prepare i) h d e = absurd cc
decides_verdict n j (events.Vote i) h d e = absurd cc
decides_verdict n j events.Decide h d e = absurd cc
decides_verdict n j events.GiveUp h d e = absurd cc
decides_verdict n j (events.Ack i) h d e = absurd cc
decides_verdict n j (events.StopPart i) h d e = absurd cc
decides_verdict n j events.StopMaster h d e = absurd cc

verdict_stays : (x y : Option Settlement) (d : Decision) → option_map verdict x ≡ Some d → option_map verdict (option_or x y) ≡ Some d
verdict_stays None y d e = absurd cc
verdict_stays (Some x) y d e = e

decision_verdict : (n j : ℕ) (h : List CommitEvent) (d : Decision) → decision n j h ≡ Some d → option_map verdict (settled n h) ≡ Some d
decision_verdict n j [] d e = let none = none_decided n j in absurd cc
decision_verdict n j (x ∷ h) d e =
    ap (option_map verdict) (settled_more n x h) ∙ verdict_stays (settled n h) (settles n x h) d (by_cases (decision_verdict n j h d) (either_some (decision n j h) (decides n j x h) d (sym (decision_more n j x h) ∙ e)))
  where
    by_cases : (decision n j h ≡ Some d → option_map verdict (settled n h) ≡ Some d) → (decision n j h ≡ Some d) ⊎ ((decision n j h ≡ None) × (decides n j x h ≡ Some d)) → option_map verdict (settled n h) ≡ Some d
    by_cases so_far (inl before) = so_far before
    by_cases so_far (inr now) = decides_verdict n j x h d now.1

pub no_two_differ : NoTwoDiffer
no_two_differ n i j h x y e f = same_Some x y (sym (decision_verdict n i h x e) ∙ decision_verdict n j h y f)

pub decision_stays : DecisionStays
decision_stays n j [] h x e = e
decision_stays n j (later ∷ more) h x e =
    decision_more n j later (more ++ h) ∙ first_stays (decision n j (more ++ h)) (decides n j later (more ++ h)) x (decision_stays n j more h x e)

-- ---- who commits, and after what

commit_settled : (z : Option Settlement) → option_map verdict z ≡ Some decisions.Commit → z ≡ Some settlements.Decided
commit_settled (Some settlements.Decided) e = refl
commit_settled (Some settlements.GivenUp) e = absurd cc
commit_settled (Some settlements.Stopped) e = absurd cc
commit_settled None e = absurd cc

abbrev VotedBefore : ℕ → List CommitEvent → Type 0
VotedBefore n h = (before : List CommitEvent) × Came events.Decide before h × (have_all_voted n before ≡ true)

decided_after : (n : ℕ) (h : List CommitEvent) → settled n h ≡ Some settlements.Decided → VotedBefore n h
decided_after n [] e = let none = none_settled n in absurd cc
decided_after n (x ∷ h) e = by_cases (decided_after n h) (either_some (settled n h) (settles n x h) settlements.Decided (sym (settled_more n x h) ∙ e))
  where
    by_cases : (settled n h ≡ Some settlements.Decided → VotedBefore n h) → (settled n h ≡ Some settlements.Decided) ⊎ ((settled n h ≡ None) × (settles n x h ≡ Some settlements.Decided)) → VotedBefore n (x ∷ h)
    by_cases so_far (inl before) = let found = so_far before in (found.0, inr found.1, found.2)
    by_cases so_far (inr now) = let this = settles_decided n x h now.1 in (h, inl (sym this.0, refl), this.1)

is_vote_of : (j : ℕ) (x : CommitEvent) → is_vote j x ≡ true → events.Vote j ≡ x
is_vote_of j (events.Vote i) e = ap events.Vote (eqb-true j i e)
is_vote_of j (events.Prepare i) e = absurd cc
is_vote_of j (events.Commit i) e = absurd cc
is_vote_of j (events.Abort i) e = absurd cc
is_vote_of j (events.Inquire i) e = absurd cc
is_vote_of j events.Decide e = absurd cc
is_vote_of j events.GiveUp e = absurd cc
is_vote_of j (events.Ack i) e = absurd cc
is_vote_of j (events.StopPart i) e = absurd cc
is_vote_of j events.StopMaster e = absurd cc

abbrev VotedAfter : ℕ → List CommitEvent → Type 0
VotedAfter j h = (before : List CommitEvent) × Came (events.Vote j) before h × (has_prepared j before ≡ true)

voted_after : (j : ℕ) (h : List CommitEvent) → has_voted j h ≡ true → VotedAfter j h
voted_after j [] e = let none = none_voted j in absurd cc
voted_after j (x ∷ h) e = by_cases (voted_after j h) (or_cases (has_voted j h) (is_vote j x && has_prepared j h) (sym (voted_more j x h) ∙ e))
  where
    by_cases : (has_voted j h ≡ true → VotedAfter j h) → (has_voted j h ≡ true) ⊎ ((is_vote j x && has_prepared j h) ≡ true) → VotedAfter j (x ∷ h)
    by_cases so_far (inl before) = let found = so_far before in (found.0, inr found.1, found.2)
    by_cases so_far (inr now) = let both = and_parts (is_vote j x) (has_prepared j h) now in (h, inl (is_vote_of j x both.0, refl), both.1)

is_prepare_of : (j : ℕ) (x : CommitEvent) → is_prepare j x ≡ true → events.Prepare j ≡ x
is_prepare_of j (events.Prepare i) e = ap events.Prepare (eqb-true j i e)
is_prepare_of j (events.Vote i) e = absurd cc
is_prepare_of j (events.Commit i) e = absurd cc
is_prepare_of j (events.Abort i) e = absurd cc
is_prepare_of j (events.Inquire i) e = absurd cc
is_prepare_of j events.Decide e = absurd cc
is_prepare_of j events.GiveUp e = absurd cc
is_prepare_of j (events.Ack i) e = absurd cc
is_prepare_of j (events.StopPart i) e = absurd cc
is_prepare_of j events.StopMaster e = absurd cc

abbrev PreparedAfter : ℕ → List CommitEvent → Type 0
PreparedAfter j h = (before : List CommitEvent) × Came (events.Prepare j) before h × ((has_stopped j before || is_dropped j before) ≡ false)

prepared_after : (j : ℕ) (h : List CommitEvent) → has_prepared j h ≡ true → PreparedAfter j h
prepared_after j [] e = let none = none_prepared j in absurd cc
prepared_after j (x ∷ h) e = by_cases (prepared_after j h) (or_cases (has_prepared j h) (is_prepare j x && not (has_stopped j h || is_dropped j h)) (sym (prepared_more j x h) ∙ e))
  where
    by_cases : (has_prepared j h ≡ true → PreparedAfter j h) → (has_prepared j h ≡ true) ⊎ ((is_prepare j x && not (has_stopped j h || is_dropped j h)) ≡ true) → PreparedAfter j (x ∷ h)
    by_cases so_far (inl before) = let found = so_far before in (found.0, inr found.1, found.2)
    by_cases so_far (inr now) =
        let both = and_parts (is_prepare j x) (not (has_stopped j h || is_dropped j h)) now in
        (h, inl (is_prepare_of j x both.0, refl), not-true (has_stopped j h || is_dropped j h) both.1)

part_voted : (j : ℕ) (moment : List CommitEvent) → has_voted j moment ≡ true → PreparedAndVoted j moment
part_voted j moment e =
    let vote = voted_after j moment e in
    let prepare = prepared_after j vote.0 vote.2 in
    let neither = or_parts (has_stopped j prepare.0) (is_dropped j prepare.0) prepare.2 in
    record {
      before_vote = vote.0;
      voted = vote.1;
      before_prepare = prepare.0;
      prepared = prepare.1;
      not_stopped = neither.0;
      not_dropped = neither.1;
    }

pub commit_needs_each_vote : CommitNeedsEachVote
commit_needs_each_vote n j h e =
    let found = decided_after n h (commit_settled (settled n h) (decision_verdict n j h decisions.Commit e)) in
    record {
      before_decide = found.0;
      master_decided = found.1;
      each = λ part within. part_voted part found.0 (each_in_range (λ (k : ℕ). has_voted k found.0) n found.2 part within);
    }

-- ---- the list of decisions

-- the decision that is read of the list is that of the part
decision_read : (n i : ℕ) (happened : List CommitEvent) (d : Decision) → slice_get (decisions_after n happened) i ≡ Some (Some d) → decision n i (reverse happened) ≡ Some d
decision_read n i happened d e = by_cases (cases_lt i n)
  where
    by_cases : (i < n) ⊎ (n ≤ i) → decision n i (reverse happened) ≡ Some d
    by_cases (inl within) = same_Some (decision n i (reverse happened)) (Some d) (sym (value_at (λ part. decision n part (reverse happened)) n i within) ∙ e)
    by_cases (inr past) = let none = value_past (λ part. decision n part (reverse happened)) n i past in absurd cc

pub none_differ : (n : ℕ) (happened : List CommitEvent) (decided : List (Option Decision)) → decided ≡ decisions_after n happened → NoneDiffer decided
none_differ n happened decided is i j x y e f =
    no_two_differ n i j (reverse happened) x y
    (decision_read n i happened x (ap (λ (ds : List (Option Decision)). slice_get ds i) (sym is) ∙ e))
    (decision_read n j happened y (ap (λ (ds : List (Option Decision)). slice_get ds j) (sym is) ∙ f))

pub commit_is_voted_for : (n : ℕ) (happened : List CommitEvent) (decided : List (Option Decision)) → decided ≡ decisions_after n happened → CommitIsVotedFor n happened decided
commit_is_voted_for n happened decided is i e =
    commit_needs_each_vote n i (reverse happened) (decision_read n i happened decisions.Commit (ap (λ (ds : List (Option Decision)). slice_get ds i) (sym is) ∙ e))
