-- The commit that is played is as the definitions say, after each event.
use Rattle.std.proofs.Common.{◌≡◌, ℕ, ◌+◌, ◌<◌, ◌≤◌, Bool, true, false, not, ◌&&◌, ◌||◌, ◌==◌, cond, List, [], ◌∷◌, ◌++◌, map, reverse, length, take, get_or, Option, Some, None, refl, sym, ap, subst, ◌∙◌, arith, ◌⊎◌, inl, inr}
use Rattle.std.proofs.lemmas.Bool.{cases_lt, cases_eq, eq-eqb, ne_eqb, and_left, and_right, cases_Bool}
use Rattle.std.proofs.lemmas.List.{reverse-append, take_more, take_all}
use Rattle.std.proofs.lemmas.List.Folds.{list_all-map}
use Rattle.std.specs.Prelude.{slice_get, is_none}
use Rattle.std.specs.List.{list_all, range_with_len}
use Rattle.std.specs.Option.{option_or}
use Rattle.rs_commit.specs.declared.coordinator.PartState.{PartState}
use Rattle.rs_commit.specs.declared.event.CommitEvent.{CommitEvent}
use Rattle.rs_commit.specs.declared.event.CommitEvent.TheVariants as events
use Rattle.rs_commit.specs.declared.event.Settlement.{Settlement}
use Rattle.rs_commit.specs.declared.event.Settlement.TheVariants as settlements
use Rattle.rs_commit.specs.declared.part.Part.{Part}
use Rattle.rs_commit.specs.declared.part.Master.{Master}
use Rattle.rs_commit.specs.declared.play.Play.{Play}
use Rattle.rs_commit.specs.Coordinator.{is_same, silent_part, with_vote, first_silent}
use Rattle.rs_commit.specs.Coordinator as coordinator
use Rattle.rs_commit.specs.Decisions.{is_vote, is_give_up, has_stopped, has_given_up, is_dropped, has_prepared, has_voted, have_all_voted, settles, settled, decision, decisions_after}
use Rattle.rs_commit.specs.Play.{new_part, new_parts, part_after, part_is_prepared, parts_after, enlist_of, new_play, master_settled, play_settled, play_voted, play_decided, play_given_up, play_part_stepped, play_after}
use Rattle.rs_commit.proofs.Counting.{map_over, none_silent}
use Rattle.rs_commit.proofs.Facts.{facts_of, voted_more, settled_more, given_up_more, none_voted, none_settled, none_given_up}
use Rattle.rs_commit.proofs.PartSteps.{part_at, master_at, is_for, part_more, prepared_at}
use Rattle.rs_commit.proofs.Ranges.{same_values, value_at, value_past, value_set}
use Rattle.rs_commit.proofs.Tests.{or_false, or_none, both_none}

-- ---- what is known of each part

abbrev parts_at : ℕ → List CommitEvent → List Part
parts_at n h = map (λ j. part_at n j h) (range_with_len 0 n)

abbrev known_at : List CommitEvent → ℕ → PartState
known_at h j = record { enlist = enlist_of j; voted = has_voted j h; acked = false }

abbrev tally : ℕ → List CommitEvent → List PartState
tally n h = map (known_at h) (range_with_len 0 n)

pub record IsPlayed (n : ℕ) (h : List CommitEvent) (play : Play) : Type 0 where
  pub parts : play.parts ≡ map (λ j. part_at n j h) (range_with_len 0 n)
  pub master : play.master ≡ master_at n h
  -- votes count until the master settles
  pub coordinator : settled n h ≡ None → play.coordinator ≡ map (known_at h) (range_with_len 0 n)

-- ---- at first

first_part : (n j : ℕ) → new_part ≡ part_at n j []
unfolding part_at decision has_prepared has_stopped is_dropped
first_part n j = refl

first_known : (j : ℕ) → silent_part (enlist_of j) ≡ known_at [] j
first_known j = λ i. record { enlist = enlist_of j; voted = sym (none_voted j) i; acked = false }

pub played_first : (n : ℕ) → IsPlayed n [] (new_play n)
played_first n = record {
  parts = same_values (λ j. new_part) (λ j. part_at n j []) n (λ j within. first_part n j);
  master = λ i. record { settled = sym (none_settled n) i; gave_up = sym none_given_up i };
  coordinator = λ none. map_over silent_part enlist_of (known_at []) first_known (range_with_len 0 n);
}

-- ---- the parts, one event later

-- an event of no part
unchanged_parts : (n : ℕ) (x : CommitEvent) (h : List CommitEvent) → ((j : ℕ) → is_for j x ≡ false) → parts_at n h ≡ parts_at n (x ∷ h)
unchanged_parts n x h none =
    same_values (λ j. part_at n j h) (λ j. part_at n j (x ∷ h)) n
    (λ j within. sym (part_more n j x h (facts_of n j within h) ∙ ap (λ b. cond b (part_after x (master_at n h) (part_at n j h)) (part_at n j h)) (none j)))

-- an event of the part i
stepped_parts : (n i : ℕ) (x : CommitEvent) (h : List CommitEvent) → ((j : ℕ) → is_for j x ≡ (j == i))
    → parts_after i x (master_at n h) (parts_at n h) (slice_get (parts_at n h) i) ≡ parts_at n (x ∷ h)
stepped_parts n i x h this = by_cases (cases_lt i n)
  where
    before : ℕ → Part
    before j = part_at n j h

    stays : (j : ℕ) → j < n → (j ≡ i → ⊥) → part_at n j (x ∷ h) ≡ part_at n j h
    stays j within differ =
        part_more n j x h (facts_of n j within h) ∙ ap (λ b. cond b (part_after x (master_at n h) (part_at n j h)) (part_at n j h)) (this j ∙ ne_eqb j i differ)

    steps : i < n → part_at n i (x ∷ h) ≡ part_after x (master_at n h) (part_at n i h)
    steps within =
        part_more n i x h (facts_of n i within h) ∙ ap (λ b. cond b (part_after x (master_at n h) (part_at n i h)) (part_at n i h)) (this i ∙ eq-eqb i i refl)

    by_cases : (i < n) ⊎ (n ≤ i) → parts_after i x (master_at n h) (parts_at n h) (slice_get (parts_at n h) i) ≡ parts_at n (x ∷ h)
    by_cases (inl within) =
        ap (parts_after i x (master_at n h) (parts_at n h)) (value_at (λ j. part_at n j h) n i within)
        ∙ sym (value_set (λ j. part_at n j h) (λ j. part_at n j (x ∷ h)) n i (part_after x (master_at n h) (part_at n i h)) within (steps within) stays)
    by_cases (inr past) =
        ap (parts_after i x (master_at n h) (parts_at n h)) (value_past (λ j. part_at n j h) n i past)
        ∙ same_values (λ j. part_at n j h) (λ j. part_at n j (x ∷ h)) n (λ j within. sym (stays j within (λ same. absurd (omega (arith, past, within, same)))))

-- ---- the master, one event later

kept_master : (n : ℕ) (x : CommitEvent) (h : List CommitEvent) → settles n x h ≡ None → is_give_up x ≡ false → master_at n h ≡ master_at n (x ∷ h)
kept_master n x h none no_give_up =
    let z : settled n (x ∷ h) ≡ settled n h = settled_more n x h ∙ ap (option_or (settled n h)) none ∙ or_none (settled n h) in
    let g : has_given_up (x ∷ h) ≡ has_given_up h = given_up_more x h ∙ ap (λ b. has_given_up h || b) no_give_up ∙ or_false (has_given_up h) in
    λ i. record { settled = sym z i; gave_up = sym g i }

-- the master had not settled before, if it has not now
unsettled_before : (n : ℕ) (x : CommitEvent) (h : List CommitEvent) → settled n (x ∷ h) ≡ None → settled n h ≡ None
unsettled_before n x h none = (both_none (settled n h) (settles n x h) (sym (settled_more n x h) ∙ none)).0

-- ---- the votes, one event later

kept_tally : (n : ℕ) (x : CommitEvent) (h : List CommitEvent) → ((j : ℕ) → is_vote j x ≡ false) → tally n h ≡ tally n (x ∷ h)
kept_tally n x h none = same_values (known_at h) (known_at (x ∷ h)) n (λ j within. same j)
  where
    same : (j : ℕ) → known_at h j ≡ known_at (x ∷ h) j
    same j =
        let v : has_voted j (x ∷ h) ≡ has_voted j h = voted_more j x h ∙ ap (λ b. has_voted j h || (b && has_prepared j h)) (none j) ∙ or_false (has_voted j h) in
        λ i. record { enlist = enlist_of j; voted = sym v i; acked = false }

-- the vote of a part that is prepared, or isn't
is_same_number : (j i : ℕ) → is_same (enlist_of j) (enlist_of i) ≡ (j == i)
is_same_number j i = refl

voted_tally : (n i : ℕ) (h : List CommitEvent) (b : Bool) → (i < n → has_prepared i h ≡ b) → (n ≤ i → b ≡ false)
    → cond b (map (with_vote (enlist_of i)) (tally n h)) (tally n h) ≡ tally n (events.Vote i ∷ h)
voted_tally n i h true prepared past =
    map_over (with_vote (enlist_of i)) (known_at h) (λ j. with_vote (enlist_of i) (known_at h j)) (λ j. refl) (range_with_len 0 n)
    ∙ same_values (λ j. with_vote (enlist_of i) (known_at h j)) (known_at (events.Vote i ∷ h)) n (λ j within. known j within (cases_eq j i))
  where
    known : (j : ℕ) → j < n → (j ≡ i) ⊎ (j ≡ i → ⊥) → with_vote (enlist_of i) (known_at h j) ≡ known_at (events.Vote i ∷ h) j
    known j within (inl same) =
        let low : i < n = subst (λ m. m < n) same within in
        let ready : has_prepared j h ≡ true = ap (λ m. has_prepared m h) same ∙ prepared low in
        let now : ((j == i) && has_prepared j h) ≡ (j == i) = rw (eq-eqb j i same, ready) refl in
        let v : has_voted j (events.Vote i ∷ h) ≡ (has_voted j h || (j == i)) = voted_more j (events.Vote i) h ∙ ap (λ b. has_voted j h || b) now in
        λ k. record { enlist = enlist_of j; voted = sym v k; acked = false }
    known j within (inr differ) =
        let now : ((j == i) && has_prepared j h) ≡ (j == i) = rw (ne_eqb j i differ) refl in
        let v : has_voted j (events.Vote i ∷ h) ≡ (has_voted j h || (j == i)) = voted_more j (events.Vote i) h ∙ ap (λ b. has_voted j h || b) now in
        λ k. record { enlist = enlist_of j; voted = sym v k; acked = false }
voted_tally n i h false prepared past = same_values (known_at h) (known_at (events.Vote i ∷ h)) n (λ j within. known j within (cases_eq j i))
  where
    nothing : (j : ℕ) → j < n → (j ≡ i) ⊎ (j ≡ i → ⊥) → ((j == i) && has_prepared j h) ≡ false
    nothing j within (inl same) = and_right (j == i) (has_prepared j h) (ap (λ m. has_prepared m h) same ∙ prepared (subst (λ m. m < n) same within))
    nothing j within (inr differ) = and_left (j == i) (has_prepared j h) (ne_eqb j i differ)

    known : (j : ℕ) → j < n → (j ≡ i) ⊎ (j ≡ i → ⊥) → known_at h j ≡ known_at (events.Vote i ∷ h) j
    known j within which =
        let v : has_voted j (events.Vote i ∷ h) ≡ has_voted j h = voted_more j (events.Vote i) h ∙ ap (λ b. has_voted j h || b) (nothing j within which) ∙ or_false (has_voted j h) in
        λ k. record { enlist = enlist_of j; voted = sym v k; acked = false }

-- ---- each kind of event

module _ (n : ℕ) (h : List CommitEvent) (play : Play) (p : IsPlayed n h play) where
  kept : (x : CommitEvent) → ((j : ℕ) → is_for j x ≡ false) → ((j : ℕ) → is_vote j x ≡ false) → settles n x h ≡ None → is_give_up x ≡ false → IsPlayed n (x ∷ h) play
  kept x no_part no_vote none no_give_up = record {
    parts = p.parts ∙ unchanged_parts n x h no_part;
    master = p.master ∙ kept_master n x h none no_give_up;
    coordinator = λ unset. p.coordinator (unsettled_before n x h unset) ∙ kept_tally n x h no_vote;
  }

  part_stepped : (i : ℕ) (x : CommitEvent) → ((j : ℕ) → is_for j x ≡ (j == i)) → ((j : ℕ) → is_vote j x ≡ false) → settles n x h ≡ None → is_give_up x ≡ false → IsPlayed n (x ∷ h) (play_part_stepped i x play)
  part_stepped i x this no_vote none no_give_up = record {
    parts = (λ k. parts_after i x (p.master k) (p.parts k) (slice_get (p.parts k) i)) ∙ stepped_parts n i x h this;
    master = p.master ∙ kept_master n x h none no_give_up;
    coordinator = λ unset. p.coordinator (unsettled_before n x h unset) ∙ kept_tally n x h no_vote;
  }

  -- a part is prepared, before the master settles
  prepared_is : (i : ℕ) → settled n h ≡ None → i < n → has_prepared i h ≡ part_is_prepared (slice_get play.parts i)
  prepared_is i none within =
      sym (prepared_at n i h (facts_of n i within h) none) ∙ sym (ap part_is_prepared (ap (λ (parts : List Part). slice_get parts i) p.parts ∙ value_at (λ j. part_at n j h) n i within))

  past_is : (i : ℕ) → n ≤ i → part_is_prepared (slice_get play.parts i) ≡ false
  past_is i past = ap part_is_prepared (ap (λ (parts : List Part). slice_get parts i) p.parts ∙ value_past (λ j. part_at n j h) n i past)

  voted : (i : ℕ) → IsPlayed n (events.Vote i ∷ h) (play_voted i play)
  voted i = by_cases (part_is_prepared (slice_get play.parts i)) refl
    where
      tallied : (b : Bool) → part_is_prepared (slice_get play.parts i) ≡ b → settled n (events.Vote i ∷ h) ≡ None
          → cond b (map (with_vote (enlist_of i)) (tally n h)) (tally n h) ≡ tally n (events.Vote i ∷ h)
      tallied b is unset =
          voted_tally n i h b (λ within. prepared_is i (unsettled_before n (events.Vote i) h unset) within ∙ is) (λ past. sym is ∙ past_is i past)

      by_cases : (b : Bool) → part_is_prepared (slice_get play.parts i) ≡ b → IsPlayed n (events.Vote i ∷ h) (cond b (record play { coordinator = map (with_vote (enlist_of i)) play.coordinator }) play)
      by_cases true is = record {
        parts = p.parts ∙ unchanged_parts n (events.Vote i) h (λ j. refl);
        master = p.master ∙ kept_master n (events.Vote i) h refl refl;
        coordinator = λ unset. ap (map (with_vote (enlist_of i))) (p.coordinator (unsettled_before n (events.Vote i) h unset)) ∙ tallied true is unset;
      }
      by_cases false is = record {
        parts = p.parts ∙ unchanged_parts n (events.Vote i) h (λ j. refl);
        master = p.master ∙ kept_master n (events.Vote i) h refl refl;
        coordinator = λ unset. p.coordinator (unsettled_before n (events.Vote i) h unset) ∙ tallied false is unset;
      }

  -- what the master settles, it has settled in the definitions
  settle_master : (x : CommitEvent) (z : Settlement) → settles n x h ≡ Some z → is_give_up x ≡ false → master_settled z play.master ≡ master_at n (x ∷ h)
  settle_master x z this no_give_up =
      let e : option_or (settled n h) (Some z) ≡ settled n (x ∷ h) = ap (option_or (settled n h)) (sym this) ∙ sym (settled_more n x h) in
      let g : has_given_up h ≡ has_given_up (x ∷ h) = sym (or_false (has_given_up h)) ∙ ap (λ b. has_given_up h || b) (sym no_give_up) ∙ sym (given_up_more x h) in
      ap (master_settled z) p.master ∙ (λ i. record { settled = e i; gave_up = g i })

  decided : IsPlayed n (events.Decide ∷ h) (play_decided play)
  decided = by_cases (is_none (first_silent play.coordinator)) refl (have_all_voted n h) refl
    where
      all_is : settled n h ≡ None → is_none (first_silent play.coordinator) ≡ have_all_voted n h
      all_is none = none_silent play.coordinator ∙ ap coordinator.have_all_voted (p.coordinator none) ∙ list_all-map (λ (part : PartState). part.voted) (known_at h) (range_with_len 0 n)

      counted : settled n (events.Decide ∷ h) ≡ None → play.coordinator ≡ tally n (events.Decide ∷ h)
      counted unset = p.coordinator (unsettled_before n events.Decide h unset) ∙ kept_tally n events.Decide h (λ j. refl)

      -- the master had settled, so nothing changes
      stands : (z : Settlement) (t : Option Settlement) → settled n h ≡ Some z → play.master ≡ master_at n (events.Decide ∷ h)
      stands z t is =
          let e : settled n (events.Decide ∷ h) ≡ settled n h = settled_more n events.Decide h ∙ ap (λ y. option_or y (settles n events.Decide h)) is ∙ sym is in
          let g : has_given_up (events.Decide ∷ h) ≡ has_given_up h = given_up_more events.Decide h ∙ or_false (has_given_up h) in
          p.master ∙ (λ i. record { settled = sym e i; gave_up = sym g i })

      stands_too : (z : Settlement) → settled n h ≡ Some z → master_settled settlements.Decided play.master ≡ master_at n (events.Decide ∷ h)
      stands_too z is =
          let own : play.master.settled ≡ Some z = ap (λ (m : Master). m.settled) p.master ∙ is in
          let same : master_settled settlements.Decided play.master ≡ play.master = (λ i. record play.master { settled = (ap (λ y. option_or y (Some settlements.Decided)) own ∙ sym own) i }) in
          same ∙ stands z None is

      by_settled : (b t : Bool) → is_none (first_silent play.coordinator) ≡ b → have_all_voted n h ≡ t → (y : Option Settlement) → settled n h ≡ y
          → (cond b (play_settled settlements.Decided play) play).master ≡ master_at n (events.Decide ∷ h)
      by_settled true t silent all (Some z) is = stands_too z is
      by_settled false t silent all (Some z) is = stands z None is
      by_settled true true silent all None is = settle_master events.Decide settlements.Decided (ap (λ b. cond b (Some settlements.Decided) None) all) refl
      by_settled false false silent all None is = p.master ∙ kept_master n events.Decide h (ap (λ b. cond b (Some settlements.Decided) None) all) refl
      by_settled true false silent all None is = let e = all_is is in absurd cc
      by_settled false true silent all None is = let e = all_is is in absurd cc

      by_cases : (b : Bool) → is_none (first_silent play.coordinator) ≡ b → (t : Bool) → have_all_voted n h ≡ t → IsPlayed n (events.Decide ∷ h) (cond b (play_settled settlements.Decided play) play)
      by_cases true silent t all = record {
        parts = p.parts ∙ unchanged_parts n events.Decide h (λ j. refl);
        master = by_settled true t silent all (settled n h) refl;
        coordinator = counted;
      }
      by_cases false silent t all = record {
        parts = p.parts ∙ unchanged_parts n events.Decide h (λ j. refl);
        master = by_settled false t silent all (settled n h) refl;
        coordinator = counted;
      }

  stopped : IsPlayed n (events.StopMaster ∷ h) (play_settled settlements.Stopped play)
  stopped = record {
    parts = p.parts ∙ unchanged_parts n events.StopMaster h (λ j. refl);
    master = settle_master events.StopMaster settlements.Stopped refl refl;
    coordinator = λ unset. p.coordinator (unsettled_before n events.StopMaster h unset) ∙ kept_tally n events.StopMaster h (λ j. refl);
  }

  given_up : IsPlayed n (events.GiveUp ∷ h) (play_given_up play)
  given_up =
      let z : option_or play.master.settled (Some settlements.GivenUp) ≡ settled n (events.GiveUp ∷ h) = ap (λ (m : Master). option_or m.settled (Some settlements.GivenUp)) p.master ∙ sym (settled_more n events.GiveUp h) in
      let g : true ≡ has_given_up (events.GiveUp ∷ h) = or_true (has_given_up h) ∙ sym (given_up_more events.GiveUp h) in
      record {
        parts = p.parts ∙ unchanged_parts n events.GiveUp h (λ j. refl);
        master = λ i. record { settled = z i; gave_up = g i };
        coordinator = λ unset. p.coordinator (unsettled_before n events.GiveUp h unset) ∙ kept_tally n events.GiveUp h (λ j. refl);
      }
    where
      or_true : (b : Bool) → true ≡ (b || true)
      or_true true = refl
      or_true false = refl

-- one event more is played
pub played_more : (n : ℕ) (x : CommitEvent) (h : List CommitEvent) (play : Play) → IsPlayed n h play → IsPlayed n (x ∷ h) (play_after x play)
played_more n (events.Vote i) h play p = voted n h play p i
played_more n events.Decide h play p = decided n h play p
played_more n events.GiveUp h play p = given_up n h play p
played_more n events.StopMaster h play p = stopped n h play p
played_more n (events.Ack i) h play p = kept n h play p (events.Ack i) (λ j. refl) (λ j. refl) refl refl
played_more n (events.Prepare i) h play p = part_stepped n h play p i (events.Prepare i) (λ j. refl) (λ j. refl) refl refl
played_more n (events.Commit i) h play p = part_stepped n h play p i (events.Commit i) (λ j. refl) (λ j. refl) refl refl
played_more n (events.Abort i) h play p = part_stepped n h play p i (events.Abort i) (λ j. refl) (λ j. refl) refl refl
played_more n (events.Inquire i) h play p = part_stepped n h play p i (events.Inquire i) (λ j. refl) (λ j. refl) refl refl
played_more n (events.StopPart i) h play p = part_stepped n h play p i (events.StopPart i) (λ j. refl) (λ j. refl) refl refl

-- ---- the loop over the events

one_longer : (happened : List CommitEvent) (at : ℕ) (d : CommitEvent) → at < length happened → reverse (take (at + 1) happened) ≡ get_or happened at d ∷ reverse (take at happened)
one_longer happened at d within = ap reverse (take_more happened at d within) ∙ reverse-append (take at happened) (get_or happened at d ∷ [])

pub played_next : (n at : ℕ) (happened : List CommitEvent) (d : CommitEvent) (play new : Play) → at < length happened → IsPlayed n (reverse (take at happened)) play → new ≡ play_after (get_or happened at d) play
    → IsPlayed n (reverse (take (at + 1) happened)) new
played_next n at happened d play new within p stepped =
    let event : CommitEvent = get_or happened at d in
    let one : IsPlayed n (event ∷ reverse (take at happened)) new = subst (IsPlayed n (event ∷ reverse (take at happened))) (sym stepped) (played_more n event (reverse (take at happened)) play p) in
    subst (λ h. IsPlayed n h new) (sym (one_longer happened at d within)) one

decided_at : (n j : ℕ) (h : List CommitEvent) → (part_at n j h).decided ≡ decision n j h
unfolding part_at
decided_at n j h = refl

-- what is read of the parts in the end
pub decisions_read : (n at : ℕ) (happened : List CommitEvent) (play : Play) → length happened ≤ at → IsPlayed n (reverse (take at happened)) play → map (λ (part : Part). part.decided) play.parts ≡ decisions_after n happened
decisions_read n at happened play all so_far =
    let p : IsPlayed n (reverse happened) play = subst (λ (es : List CommitEvent). IsPlayed n (reverse es) play) (take_all at happened all) so_far in
    ap (map (λ (part : Part). part.decided)) p.parts
    ∙ map_over (λ (part : Part). part.decided) (λ j. part_at n j (reverse happened)) (λ j. decision n j (reverse happened)) (λ j. decided_at n j (reverse happened)) (range_with_len 0 n)
