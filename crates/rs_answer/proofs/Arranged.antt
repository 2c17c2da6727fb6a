-- Lists in order: two with the same elements are the same list, and `sorted_by` gives the one.
use Rattle.std.proofs.Common.{◌≡◌, ℕ, ◌+◌, ◌<◌, suc, zero, List, [], ◌∷◌, Bool, true, false, cond, length, Ordering, Less, Equal, Greater, refl, sym, ap, ◌∙◌, is_lt, is_gt, arith, add-one}
use Rattle.std.proofs.Math.ListN.{get_or}
use Rattle.std.specs.Cmp.{IsTotalOrder}
use Rattle.std.specs.List.{sum_by, AllByRecursion}
use Rattle.std.specs.List.Sorted.{IsSorted, IsPermutation}
use Rattle.std.specs.Ordering.{ordering_reverse, match_ordering}
use Rattle.std.proofs.lemmas.Cmp.{upto, tied_itself}
use Rattle.std.proofs.lemmas.List.Sorted.{sorted_far, ranks_by, sum_by-IsPermutation, IsPermutation-refl, IsPermutation-cons, IsPermutation-swap, IsPermutation-trans}
use Rattle.std.proofs.lemmas.List.Sums.{sum_by-cons}
use Rattle.std.proofs.lemmas.Map.Lookups.{CmpEqualImpliesEq}
use Rattle.rs_answer.specs.Sorting.{put_in_order, sorted_by}

reversed_twice : (r : Ordering) → ordering_reverse (ordering_reverse r) ≡ r
reversed_twice Less = refl
reversed_twice Equal = refl
reversed_twice Greater = refl

-- ---- what every list in order has

-- no element of the list is below x
abbrev pub NoneBelow : {X : Type 0} → (X → X → Ordering) → X → List X → Type 0
NoneBelow R x xs = AllByRecursion (λ y. is_gt (R x y) ≡ false) xs

-- no element is below one before it
abbrev pub Rising : {X : Type 0} → (X → X → Ordering) → List X → Type 0
Rising R [] = Unit {0}
Rising R (x ∷ xs) = NoneBelow R x xs × Rising R xs

pub lt_as_gt : {X : Type 0} {R : X → X → Ordering} → IsTotalOrder R → (x y : X) → is_lt (R y x) ≡ is_gt (R x y)
lt_as_gt {X} {R} o x y =
    let reversed : (r : Ordering) → is_lt (ordering_reverse r) ≡ is_gt r = λ r. elim r as (λ r. is_lt (ordering_reverse r) ≡ is_gt r) [ Less ↦ refl | Equal ↦ refl | Greater ↦ refl ] in
    ap is_lt (o.antisymm y x) ∙ reversed (R x y)

none_below_from_indexes : {X : Type 0} (R : X → X → Ordering) (x : X) (xs : List X)
    → ((j : ℕ) (d : X) → j < length xs → is_gt (R x (get_or xs j d)) ≡ false) → NoneBelow R x xs
none_below_from_indexes R x [] h = tt
none_below_from_indexes R x (y ∷ ys) h =
    (h 0 y (omega arith), none_below_from_indexes R x ys (λ j d l. h (suc j) d (omega arith)))

sorted_rest : {X : Type 0} (R : X → X → Ordering) (x : X) (xs : List X) → IsSorted R (x ∷ xs) → IsSorted R xs
sorted_rest R x xs up = λ k d low high. rw add-one (simp add-one at (up (suc k) d (omega arith) (omega arith)))

pub rising_from_sorted : {X : Type 0} {R : X → X → Ordering} → IsTotalOrder R → (xs : List X) → IsSorted R xs → Rising R xs
rising_from_sorted o [] up = tt
rising_from_sorted {X} {R} o (x ∷ xs) up = (
  none_below_from_indexes R x xs (λ j d l. sym (lt_as_gt o x (get_or xs j d)) ∙ sorted_far (λ a b. is_lt (R a b)) (ranks_by o (λ x. x)) (x ∷ xs) up 0 (suc j) d (omega arith) (omega arith)),
  rising_from_sorted o xs (sorted_rest R x xs up),
)

pub sorted_from_rising : {X : Type 0} {R : X → X → Ordering} → IsTotalOrder R → (xs : List X) → Rising R xs → IsSorted R xs
sorted_from_rising o [] up = λ k d low high. absurd (omega arith)
sorted_from_rising o (x ∷ []) up = λ k d low high. absurd (omega arith)
sorted_from_rising {X} {R} o (x ∷ y ∷ ys) up =
    let step : (k : ℕ) (d : X) → k + 1 < length (x ∷ y ∷ ys) → is_lt (R (get_or (x ∷ y ∷ ys) (k + 1) d) (get_or (x ∷ y ∷ ys) k d)) ≡ false
    = λ k. elim k as (λ k. (d : X) → k + 1 < length (x ∷ y ∷ ys) → is_lt (R (get_or (x ∷ y ∷ ys) (k + 1) d) (get_or (x ∷ y ∷ ys) k d)) ≡ false) [
      | zero ↦ λ d high. lt_as_gt o x y ∙ up.0.0
      | suc j ↦ λ d high. rw add-one (simp add-one at (sorted_from_rising o (y ∷ ys) up.1 j d (omega arith) (omega arith)))
    ] in
    λ k d low high. step k d high

-- ---- two lists in order with the same elements

zero_sum : {X : Type 0} (f : X → ℕ) (xs : List X) → AllByRecursion (λ x. f x ≡ 0) xs → sum_by f xs ≡ 0
zero_sum f [] h = refl
zero_sum f (x ∷ xs) h = let rest : sum_by f xs ≡ 0 = zero_sum f xs h.1 in omega (arith, sum_by-cons f x xs, h.0)

-- 1 for an element below x
abbrev one_below : {X : Type 0} → (X → X → Ordering) → X → X → ℕ
one_below R x y = cond (is_gt (R x y)) 1 0

none_counts : {X : Type 0} (R : X → X → Ordering) (x : X) (xs : List X) → NoneBelow R x xs → AllByRecursion (λ y. one_below R x y ≡ 0) xs
none_counts R x [] h = tt
none_counts R x (y ∷ ys) h = (ap (λ b. cond b 1 0) h.0, none_counts R x ys h.1)

-- no element of a list in order is below its first
none_below_first : {X : Type 0} {R : X → X → Ordering} → IsTotalOrder R → (y : X) (ys : List X) → Rising R (y ∷ ys) → sum_by (one_below R y) (y ∷ ys) ≡ 0
none_below_first {X} {R} o y ys up =
    zero_sum (one_below R y) (y ∷ ys) (none_counts R y (y ∷ ys) (ap is_gt (tied_itself o y), up.0))

not_below : (b : Bool) → cond {A = ℕ} b 1 0 ≡ 0 → b ≡ false
not_below true e = cc
not_below false e = refl

-- the first element isn't below y, where none is
first_not_below : {X : Type 0} (R : X → X → Ordering) (y x : X) (xs : List X) → sum_by (one_below R y) (x ∷ xs) ≡ 0 → is_gt (R y x) ≡ false
first_not_below R y x xs e = not_below (is_gt (R y x)) (omega (arith, sum_by-cons (one_below R y) x xs, e))

neither_above : (r s : Ordering) → r ≡ ordering_reverse s → is_gt r ≡ false → is_gt s ≡ false → r ≡ Equal
neither_above Less s e f g = cc (ap ordering_reverse e, reversed_twice s, g)
neither_above Equal s e f g = refl
neither_above Greater s e f g = cc

pub same_first : {X : Type 0} {R : X → X → Ordering} → IsTotalOrder R → CmpEqualImpliesEq R → (x y : X)
    → is_gt (R y x) ≡ false → is_gt (R x y) ≡ false → x ≡ y
same_first {X} {R} o exact x y f g = exact x y (neither_above (R x y) (R y x) (o.antisymm x y) g f)

pub same_from_sums : {X : Type 0} {R : X → X → Ordering} → IsTotalOrder R → CmpEqualImpliesEq R → (xs ys : List X) → Rising R xs → Rising R ys
    → ((f : X → ℕ) → sum_by f xs ≡ sum_by f ys) → xs ≡ ys
same_from_sums o exact [] [] up vp h = refl
same_from_sums o exact [] (y ∷ ys) up vp h = absurd (omega (arith, h (λ _. 1), sum_by-cons (λ _. 1) y ys))
same_from_sums o exact (x ∷ xs) [] up vp h = absurd (omega (arith, h (λ _. 1), sum_by-cons (λ _. 1) x xs))
same_from_sums {X} {R} o exact (x ∷ xs) (y ∷ ys) up vp h =
    let first : x ≡ y = same_first o exact x y
    (first_not_below R y x xs (h (one_below R y) ∙ none_below_first o y ys vp))
    (first_not_below R x y ys (sym (h (one_below R x)) ∙ none_below_first o x xs up)) in
    let rest : xs ≡ ys = same_from_sums o exact xs ys up.1 vp.1
    (λ f. let same : f x ≡ f y = ap f first in omega (arith, h f, sum_by-cons f x xs, sum_by-cons f y ys, same)) in cc

-- ---- `sorted_by`

module _ {X : Type 0} (R : X → X → Ordering) where
  put_permutes : (x : X) (xs : List X) → IsPermutation (x ∷ xs) (put_in_order R x xs)
  put_permutes x [] = IsPermutation-refl _
  put_permutes x (y ∷ ys) =
      let reversed : IsPermutation (x ∷ y ∷ ys) (y ∷ x ∷ ys) = IsPermutation-swap (x ∷ y ∷ ys) (y ∷ x ∷ ys) 0 1 (omega arith) (omega arith) refl in
      let onward : IsPermutation (x ∷ y ∷ ys) (y ∷ put_in_order R x ys) = IsPermutation-trans _ (y ∷ x ∷ ys) _ reversed (IsPermutation-cons y _ _ (put_permutes x ys)) in
      elim (R x y) as (λ o. IsPermutation (x ∷ y ∷ ys) (match_ordering o (x ∷ y ∷ ys) (x ∷ y ∷ ys) (y ∷ put_in_order R x ys)))
      [ Less ↦ IsPermutation-refl _ | Equal ↦ IsPermutation-refl _ | Greater ↦ onward ]

  pub sorted_by_permutes : (xs : List X) → IsPermutation xs (sorted_by R xs)
  sorted_by_permutes [] = IsPermutation-refl []
  sorted_by_permutes (x ∷ xs) = IsPermutation-trans (x ∷ xs) (x ∷ sorted_by R xs) _ (IsPermutation-cons x xs (sorted_by R xs) (sorted_by_permutes xs)) (put_permutes x (sorted_by R xs))

  all_put : (P : X → Type 0) (x : X) (xs : List X) → P x → AllByRecursion P xs → AllByRecursion P (put_in_order R x xs)
  all_put P x [] here all = (here, tt)
  all_put P x (y ∷ ys) here all =
      let onward : AllByRecursion P (y ∷ put_in_order R x ys) = (all.0, all_put P x ys here all.1) in
      elim (R x y) as (λ o. AllByRecursion P (match_ordering o (x ∷ y ∷ ys) (x ∷ y ∷ ys) (y ∷ put_in_order R x ys)))
      [ Less ↦ (here, all) | Equal ↦ (here, all) | Greater ↦ onward ]

  pub all_sorted : (P : X → Type 0) (xs : List X) → AllByRecursion P xs → AllByRecursion P (sorted_by R xs)
  all_sorted P [] all = tt
  all_sorted P (x ∷ xs) all = all_put P x (sorted_by R xs) all.0 (all_sorted P xs all.1)

module _ {X : Type 0} {R : X → X → Ordering} (total : IsTotalOrder R) where
  pub none_below_before : (x y : X) (ys : List X) → is_gt (R x y) ≡ false → NoneBelow R y ys → NoneBelow R x ys
  none_below_before x y [] e h = tt
  none_below_before x y (z ∷ zs) e h = (upto total x y z e h.0, none_below_before x y zs e h.1)

  reversed_above : (x y : X) → R x y ≡ Greater → is_gt (R y x) ≡ false
  reversed_above x y e = ap is_gt (total.antisymm y x ∙ ap ordering_reverse e)

  put_rises : (x : X) (xs : List X) → Rising R xs → Rising R (put_in_order R x xs)
  put_rises x [] up = (tt, tt)
  put_rises x (y ∷ ys) up =
      let before : is_gt (R x y) ≡ false → Rising R (x ∷ y ∷ ys) = λ e. ((e, none_below_before x y ys e up.0), up) in
      let onward : R x y ≡ Greater → Rising R (y ∷ put_in_order R x ys) = λ e.
      (all_put R (λ z. is_gt (R y z) ≡ false) x ys (reversed_above x y e) up.0, put_rises x ys up.1) in
      let at : (o : Ordering) → R x y ≡ o → Rising R (match_ordering o (x ∷ y ∷ ys) (x ∷ y ∷ ys) (y ∷ put_in_order R x ys)) =
      λ o. elim o as (λ o. R x y ≡ o → Rising R (match_ordering o (x ∷ y ∷ ys) (x ∷ y ∷ ys) (y ∷ put_in_order R x ys)))
      [ Less ↦ λ e. before (ap is_gt e) | Equal ↦ λ e. before (ap is_gt e) | Greater ↦ λ e. onward e ] in
      at (R x y) refl

  pub sorted_by_rises : (xs : List X) → Rising R (sorted_by R xs)
  sorted_by_rises [] = tt
  sorted_by_rises (x ∷ xs) = put_rises x (sorted_by R xs) (sorted_by_rises xs)

  pub sorted_by_sorts : (xs : List X) → IsSorted R (sorted_by R xs)
  sorted_by_sorts xs = sorted_from_rising total (sorted_by R xs) (sorted_by_rises xs)

  -- a list in order, of the same elements, is the one that `sorted_by` gives
  pub is_sorted_by : CmpEqualImpliesEq R → (xs ys : List X) → IsPermutation xs ys → IsSorted R ys → ys ≡ sorted_by R xs
  is_sorted_by exact xs ys same up =
      same_from_sums total exact ys (sorted_by R xs) (rising_from_sorted total ys up) (sorted_by_rises xs)
      (λ f. sum_by-IsPermutation f xs ys same ∙ sym (sum_by-IsPermutation f xs (sorted_by R xs) (sorted_by_permutes R xs)))
