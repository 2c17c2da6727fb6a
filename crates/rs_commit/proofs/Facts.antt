-- What is true of a master and one of its parts after any events.
use Rattle.std.proofs.Common.{◌≡◌, ℕ, ◌<◌, Bool, true, false, not, ◌&&◌, ◌||◌, ◌==◌, cond, List, [], ◌∷◌, Option, Some, None, refl, sym, ap, ◌∙◌, ◌⊎◌, inl, inr}
use Rattle.std.proofs.lemmas.Bool.{or_cases, or_left, and_parts}
use Rattle.std.specs.List.{list_all, range_with_len}
use Rattle.std.specs.Option.{option_or}
use Rattle.rs_commit.specs.declared.event.CommitEvent.{CommitEvent}
use Rattle.rs_commit.specs.declared.event.CommitEvent.TheVariants as events
use Rattle.rs_commit.specs.declared.event.Decision.{Decision}
use Rattle.rs_commit.specs.declared.event.Decision.TheVariants as decisions
use Rattle.rs_commit.specs.declared.event.Settlement.{Settlement}
use Rattle.rs_commit.specs.declared.event.Settlement.TheVariants as settlements
use Rattle.rs_commit.specs.Decisions.{has_come, is_prepare, is_vote, is_abort, is_stop, is_give_up, has_stopped, has_given_up, is_dropped, has_prepared, has_voted, have_all_voted, settles, settled, by_commit, by_abort, by_inquiry, decides, decision}
use Rattle.rs_commit.proofs.Ranges.{each_in_range}
use Rattle.rs_commit.proofs.Tests.{cond_same, both_none, either_some}

-- ---- the definitions, one event later

pub stopped_more : (j : ℕ) (x : CommitEvent) (h : List CommitEvent) → has_stopped j (x ∷ h) ≡ (has_stopped j h || is_stop j x)
unfolding has_stopped
stopped_more j x h = refl

pub given_up_more : (x : CommitEvent) (h : List CommitEvent) → has_given_up (x ∷ h) ≡ (has_given_up h || is_give_up x)
unfolding has_given_up
given_up_more x h = refl

pub dropped_more : (j : ℕ) (x : CommitEvent) (h : List CommitEvent) → is_dropped j (x ∷ h) ≡ (is_dropped j h || (is_abort j x && has_given_up h))
unfolding is_dropped
dropped_more j x h = refl

pub prepared_more : (j : ℕ) (x : CommitEvent) (h : List CommitEvent) → has_prepared j (x ∷ h) ≡ (has_prepared j h || (is_prepare j x && not (has_stopped j h || is_dropped j h)))
unfolding has_prepared
prepared_more j x h = refl

pub voted_more : (j : ℕ) (x : CommitEvent) (h : List CommitEvent) → has_voted j (x ∷ h) ≡ (has_voted j h || (is_vote j x && has_prepared j h))
unfolding has_voted
voted_more j x h = refl

pub settled_more : (n : ℕ) (x : CommitEvent) (h : List CommitEvent) → settled n (x ∷ h) ≡ option_or (settled n h) (settles n x h)
unfolding settled
settled_more n x h = refl

pub decision_more : (n j : ℕ) (x : CommitEvent) (h : List CommitEvent) → decision n j (x ∷ h) ≡ option_or (decision n j h) (decides n j x h)
unfolding decision
decision_more n j x h = refl

-- ---- nothing has come at first

pub none_stopped : (j : ℕ) → has_stopped j [] ≡ false
unfolding has_stopped
none_stopped j = refl

pub none_given_up : has_given_up [] ≡ false
unfolding has_given_up
none_given_up = refl

pub none_dropped : (j : ℕ) → is_dropped j [] ≡ false
unfolding is_dropped
none_dropped j = refl

pub none_prepared : (j : ℕ) → has_prepared j [] ≡ false
unfolding has_prepared
none_prepared j = refl

pub none_voted : (j : ℕ) → has_voted j [] ≡ false
unfolding has_voted
none_voted j = refl

pub none_settled : (n : ℕ) → settled n [] ≡ None
unfolding settled
none_settled n = refl

pub none_decided : (n j : ℕ) → decision n j [] ≡ None
unfolding decision
none_decided n j = refl

-- ---- votes and Prepares

-- a part that voted is prepared
pub voted_prepared : (j : ℕ) (h : List CommitEvent) → has_voted j h ≡ true → has_prepared j h ≡ true
voted_prepared j [] e = let none = none_voted j in absurd cc
voted_prepared j (x ∷ h) e =
    prepared_more j x h ∙ or_left (has_prepared j h) (is_prepare j x && not (has_stopped j h || is_dropped j h)) (by_cases (voted_prepared j h) (or_cases (has_voted j h) (is_vote j x && has_prepared j h) (sym (voted_more j x h) ∙ e)))
  where
    by_cases : (has_voted j h ≡ true → has_prepared j h ≡ true) → (has_voted j h ≡ true) ⊎ ((is_vote j x && has_prepared j h) ≡ true) → has_prepared j h ≡ true
    by_cases so_far (inl before) = so_far before
    by_cases so_far (inr now) = (and_parts (is_vote j x) (has_prepared j h) now).1

-- only a Decide that each part has voted for decides
pub settles_decided : (n : ℕ) (x : CommitEvent) (h : List CommitEvent) → settles n x h ≡ Some settlements.Decided → (x ≡ events.Decide) × (have_all_voted n h ≡ true)
settles_decided n events.Decide h e = (refl, all (have_all_voted n h) e)
  where
    all : (t : Bool) → cond t (Some settlements.Decided) None ≡ Some settlements.Decided → t ≡ true
    all true e = refl
    all false e = absurd cc
settles_decided n events.GiveUp h e = absurd cc
settles_decided n events.StopMaster h e = absurd cc
settles_decided n (events.Prepare i) h e = absurd cc
settles_decided n (events.Vote i) h e = absurd cc
settles_decided n (events.Commit i) h e = absurd cc
settles_decided n (events.Abort i) h e = absurd cc
settles_decided n (events.Ack i) h e = absurd cc
settles_decided n (events.Inquire i) h e = absurd cc
settles_decided n (events.StopPart i) h e = absurd cc

-- where the master has decided, each part is prepared
pub decided_prepared : (n j : ℕ) → j < n → (h : List CommitEvent) → settled n h ≡ Some settlements.Decided → has_prepared j h ≡ true
decided_prepared n j within [] e = let none = none_settled n in absurd cc
decided_prepared n j within (x ∷ h) e =
    prepared_more j x h ∙ or_left (has_prepared j h) (is_prepare j x && not (has_stopped j h || is_dropped j h)) (by_cases (decided_prepared n j within h) (either_some (settled n h) (settles n x h) settlements.Decided (sym (settled_more n x h) ∙ e)))
  where
    by_cases : (settled n h ≡ Some settlements.Decided → has_prepared j h ≡ true) → (settled n h ≡ Some settlements.Decided) ⊎ ((settled n h ≡ None) × (settles n x h ≡ Some settlements.Decided)) → has_prepared j h ≡ true
    by_cases so_far (inl before) = so_far before
    by_cases so_far (inr now) = voted_prepared j h (each_in_range (λ part. has_voted part h) n (settles_decided n x h now.1).1 j within)

-- ---- before the master settles

-- no event makes a part decide
pub decides_none : (n j : ℕ) (x : CommitEvent) (h : List CommitEvent) → settled n h ≡ None → decides n j x h ≡ None
decides_none n j (events.Commit i) h e = rw e (cond_same (j == i) None)
decides_none n j (events.Abort i) h e = rw e (cond_same (j == i) None)
decides_none n j (events.Inquire i) h e = rw e (cond_same (j == i) None)
decides_none n j (events.Prepare i) h e = refl
decides_none n j (events.Vote i) h e = refl
decides_none n j events.Decide h e = refl
decides_none n j events.GiveUp h e = refl
decides_none n j (events.Ack i) h e = refl
decides_none n j (events.StopPart i) h e = refl
decides_none n j events.StopMaster h e = refl

pub unsettled_undecided : (n j : ℕ) (h : List CommitEvent) → settled n h ≡ None → decision n j h ≡ None
unsettled_undecided n j [] e = none_decided n j
unsettled_undecided n j (x ∷ h) e =
    let before : settled n h ≡ None = (both_none (settled n h) (settles n x h) (sym (settled_more n x h) ∙ e)).0 in
    decision_more n j x h ∙ rw (unsettled_undecided n j h before) (decides_none n j x h before)

settles_give_up : (n : ℕ) (x : CommitEvent) (h : List CommitEvent) → settles n x h ≡ None → is_give_up x ≡ false
settles_give_up n events.GiveUp h e = absurd cc
settles_give_up n events.StopMaster h e = refl
settles_give_up n events.Decide h e = refl
settles_give_up n (events.Prepare i) h e = refl
settles_give_up n (events.Vote i) h e = refl
settles_give_up n (events.Commit i) h e = refl
settles_give_up n (events.Abort i) h e = refl
settles_give_up n (events.Ack i) h e = refl
settles_give_up n (events.Inquire i) h e = refl
settles_give_up n (events.StopPart i) h e = refl

pub unsettled_not_given_up : (n : ℕ) (h : List CommitEvent) → settled n h ≡ None → has_given_up h ≡ false
unsettled_not_given_up n [] e = none_given_up
unsettled_not_given_up n (x ∷ h) e =
    let both = both_none (settled n h) (settles n x h) (sym (settled_more n x h) ∙ e) in
    given_up_more x h ∙ rw (unsettled_not_given_up n h both.0) (settles_give_up n x h both.1)

-- ---- parts that an Abort dropped

pub dropped_given_up : (j : ℕ) (h : List CommitEvent) → is_dropped j h ≡ true → has_given_up h ≡ true
dropped_given_up j [] e = let none = none_dropped j in absurd cc
dropped_given_up j (x ∷ h) e = given_up_more x h ∙ or_left (has_given_up h) (is_give_up x) (by_cases (dropped_given_up j h) (or_cases (is_dropped j h) (is_abort j x && has_given_up h) (sym (dropped_more j x h) ∙ e)))
  where
    by_cases : (is_dropped j h ≡ true → has_given_up h ≡ true) → (is_dropped j h ≡ true) ⊎ ((is_abort j x && has_given_up h) ≡ true) → has_given_up h ≡ true
    by_cases so_far (inl before) = so_far before
    by_cases so_far (inr now) = (and_parts (is_abort j x) (has_given_up h) now).1

-- the settlement stood already, if the master had given up
stood : (n : ℕ) (x : CommitEvent) (h : List CommitEvent) (z : Settlement) → has_given_up h ≡ true → settled n (x ∷ h) ≡ Some z → settled n h ≡ Some z
stood n x h z up e = by_cases (either_some (settled n h) (settles n x h) z (sym (settled_more n x h) ∙ e))
  where
    by_cases : (settled n h ≡ Some z) ⊎ ((settled n h ≡ None) × (settles n x h ≡ Some z)) → settled n h ≡ Some z
    by_cases (inl before) = before
    by_cases (inr now) = let none = unsettled_not_given_up n h now.0 in absurd cc

-- an Abort of a master that gave up which makes its part decide nothing finds that it stopped
abort_stopped : (p s : Bool) → cond (not p && s) None (Some decisions.Abort) ≡ None → s ≡ true
abort_stopped true s e = absurd cc
abort_stopped false true e = refl
abort_stopped false false e = absurd cc

abort_none : (n j : ℕ) (x : CommitEvent) (h : List CommitEvent) → is_abort j x ≡ true → settled n h ≡ Some settlements.GivenUp → decides n j x h ≡ None → has_stopped j h ≡ true
abort_none n j (events.Abort i) h this z e = abort_stopped (has_prepared j h) (has_stopped j h) (rw (this, z) at e)
abort_none n j (events.Commit i) h this z e = absurd cc
abort_none n j (events.Inquire i) h this z e = absurd cc
abort_none n j (events.Prepare i) h this z e = absurd cc
abort_none n j (events.Vote i) h this z e = absurd cc
abort_none n j events.Decide h this z e = absurd cc
abort_none n j events.GiveUp h this z e = absurd cc
abort_none n j (events.Ack i) h this z e = absurd cc
abort_none n j (events.StopPart i) h this z e = absurd cc
abort_none n j events.StopMaster h this z e = absurd cc

pub dropped_stopped : (n j : ℕ) (h : List CommitEvent) → is_dropped j h ≡ true → settled n h ≡ Some settlements.GivenUp → decision n j h ≡ None → has_stopped j h ≡ true
dropped_stopped n j [] gone z e = let none = none_dropped j in absurd cc
dropped_stopped n j (x ∷ h) gone z e =
    stopped_more j x h ∙ or_left (has_stopped j h) (is_stop j x) (by_cases (dropped_stopped n j h) (or_cases (is_dropped j h) (is_abort j x && has_given_up h) (sym (dropped_more j x h) ∙ gone)))
  where
    both : (decision n j h ≡ None) × (decides n j x h ≡ None)
    both = both_none (decision n j h) (decides n j x h) (sym (decision_more n j x h) ∙ e)

    by_cases : (is_dropped j h ≡ true → settled n h ≡ Some settlements.GivenUp → decision n j h ≡ None → has_stopped j h ≡ true) → (is_dropped j h ≡ true) ⊎ ((is_abort j x && has_given_up h) ≡ true) → has_stopped j h ≡ true
    by_cases so_far (inl before) = so_far before (stood n x h settlements.GivenUp (dropped_given_up j h before) z) both.0
    by_cases so_far (inr now) =
        let parts = and_parts (is_abort j x) (has_given_up h) now in
        abort_none n j x h parts.0 (stood n x h settlements.GivenUp parts.1 z) both.1

-- ---- all of it

pub record Facts (n j : ℕ) (h : List CommitEvent) : Type 0 where
  pub decided : settled n h ≡ Some settlements.Decided → has_prepared j h ≡ true
  pub undecided : settled n h ≡ None → decision n j h ≡ None
  pub aborted : is_dropped j h ≡ true → settled n h ≡ Some settlements.GivenUp → decision n j h ≡ None → has_stopped j h ≡ true

pub facts_of : (n j : ℕ) → j < n → (h : List CommitEvent) → Facts n j h
facts_of n j within h = record {
  decided = decided_prepared n j within h;
  undecided = unsettled_undecided n j h;
  aborted = dropped_stopped n j h;
}
