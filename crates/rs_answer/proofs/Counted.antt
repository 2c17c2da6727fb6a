-- The number of times that an element is in a list, by a test of equality: after a filter, after `once`, and in sorted lists.
use Rattle.std.proofs.Common.{◌≡◌, ℕ, ◌+◌, ◌<◌, min, List, [], ◌∷◌, ◌++◌, Bool, true, false, not, cond, Ordering, Less, Equal, Greater, refl, sym, ap, ◌∙◌, subst, arith, ⊎_elim}
use Rattle.std.specs.Cmp.{IsTotalOrder}
use Rattle.std.specs.List.{sum_by, filter, dedup, dedup_from, AllByRecursion}
use Rattle.std.specs.List.Sorted.{IsPermutation}
use Rattle.std.specs.Ordering.{is_eq, is_gt}
use Rattle.std.proofs.lemmas.Bool.{cases_Bool, cond_both, false≢true}
use Rattle.std.proofs.lemmas.Cmp.{tied_itself}
use Rattle.std.proofs.lemmas.List.Sorted.{sum_by-IsPermutation, IsPermutation-trans, IsPermutation-sym}
use Rattle.std.proofs.lemmas.List.Sums.{sum_by-cons}
use Rattle.std.proofs.lemmas.Map.Lookups.{CmpEqualImpliesEq}
use Rattle.rs_answer.specs.Groups.{once}
use Rattle.rs_answer.specs.Sorting.{sorted_by}
use Rattle.rs_answer.proofs.Arranged.{NoneBelow, Rising, same_first, sorted_by_rises, sorted_by_permutes}

-- a test that is true just of equal elements
pub record Decides {X : Type 0} (same : X → X → Bool) : Type 0 where
  pub itself : (x : X) → same x x ≡ true
  pub exact : (x y : X) → same x y ≡ true → x ≡ y

tie_from_is_eq : (o : Ordering) → is_eq o ≡ true → o ≡ Equal
tie_from_is_eq Less e = cc
tie_from_is_eq Equal e = refl
tie_from_is_eq Greater e = cc

-- the ties of an order in which only equal elements tie
pub ties_decide : {X : Type 0} {R : X → X → Ordering} → IsTotalOrder R → CmpEqualImpliesEq R → Decides (λ x y. is_eq (R x y))
ties_decide {X} {R} total exact = record {
  itself = λ x. ap is_eq (tied_itself total x);
  exact = λ x y e. exact x y (tie_from_is_eq (R x y) e);
}

-- 1 for an element that is the same
abbrev pub one_like : {X : Type 0} → (X → X → Bool) → X → X → ℕ
one_like same z x = cond (same z x) 1 0

-- how often z is in the list
abbrev pub times : {X : Type 0} → (X → X → Bool) → X → List X → ℕ
times same z [] = 0
times same z (x ∷ xs) = one_like same z x + times same z xs

module _ {X : Type 0} (same : X → X → Bool) where
  pub times_is_sum : (z : X) (xs : List X) → times same z xs ≡ sum_by (one_like same z) xs
  times_is_sum z [] = refl
  times_is_sum z (x ∷ xs) = let rest = times_is_sum z xs in omega (arith, sum_by-cons (one_like same z) x xs)

  pub times_permuted : (z : X) (xs ys : List X) → IsPermutation xs ys → times same z ys ≡ times same z xs
  times_permuted z xs ys same-items = times_is_sum z ys ∙ sum_by-IsPermutation (one_like same z) xs ys same-items ∙ sym (times_is_sum z xs)

  pub times_append : (z : X) (xs ys : List X) → times same z (xs ++ ys) ≡ times same z xs + times same z ys
  times_append z [] ys = omega arith
  times_append z (x ∷ xs) ys = let rest = times_append z xs ys in omega arith

  pub times_not : (z : X) (xs : List X) → AllByRecursion (λ x. same z x ≡ false) xs → times same z xs ≡ 0
  times_not z [] none = refl
  times_not z (x ∷ xs) none = let here : one_like same z x ≡ 0 = ap (λ b. cond b 1 0) none.0 in omega (arith, here, times_not z xs none.1)

  -- what holds of every element of the list
  pub occurring : Decides same → (P : X → Type 0) (z : X) (xs : List X) → 0 < times same z xs → AllByRecursion P xs → P z
  occurring is P z [] h all = absurd (omega (arith, h))
  occurring is P z (x ∷ xs) h all =
      ⊎_elim (λ (e : same z x ≡ true). subst P (sym (is.exact z x e)) all.0)
      (λ (e : same z x ≡ false). let here : one_like same z x ≡ 0 = ap (λ b. cond b 1 0) e in occurring is P z xs (omega (arith, h, here)) all.1)
      (cases_Bool (same z x))

same_truth : (b c : Bool) → (b ≡ true → c ≡ true) → (c ≡ true → b ≡ true) → b ≡ c
same_truth true c f g = sym (f refl)
same_truth false true f g = g refl
same_truth false false f g = refl

-- two tests of equality agree, also if the one has its arguments reversed
pub tests_agree : {X : Type 0} (same alike : X → X → Bool) → Decides same → Decides alike → (x y : X) → same x y ≡ alike x y
tests_agree {X} same alike is also x y =
    same_truth (same x y) (alike x y)
    (λ e. ap (alike x) (sym (is.exact x y e)) ∙ also.itself x)
    (λ e. ap (same x) (sym (also.exact x y e)) ∙ is.itself x)

reversed_decides : {X : Type 0} (same : X → X → Bool) → Decides same → Decides (λ x y. same y x)
reversed_decides same is = record { itself = is.itself; exact = λ x y e. sym (is.exact y x e) }

pub test_turns : {X : Type 0} (same : X → X → Bool) → Decides same → (x y : X) → same x y ≡ same y x
test_turns same is x y = tests_agree same (λ x y. same y x) is (reversed_decides same is) x y

-- ---- after a filter

no_items : (b : Bool) → cond {A = ℕ} b 0 0 ≡ 0
no_items true = refl
no_items false = refl

filter_step : (t b c : Bool) (more kept : ℕ) → kept ≡ cond c more 0 → (t ≡ true → b ≡ c) → cond b (cond t 1 0 + kept) kept ≡ cond c (cond t 1 0 + more) 0
filter_step true true true more kept e h = omega arith
filter_step true true false more kept e h = cc (h refl)
filter_step true false true more kept e h = cc (h refl)
filter_step true false false more kept e h = omega arith
filter_step false true true more kept e h = omega arith
filter_step false true false more kept e h = omega arith
filter_step false false true more kept e h = omega arith
filter_step false false false more kept e h = omega arith

module _ {X : Type 0} (same : X → X → Bool) (is : Decides same) where
  times_cond : (b : Bool) (z y : X) (ys : List X) → times same z (cond b (y ∷ ys) ys) ≡ cond b (one_like same z y + times same z ys) (times same z ys)
  times_cond true z y ys = refl
  times_cond false z y ys = refl

  pub times_filter : (p : X → Bool) (z : X) (xs : List X) → times same z (filter p xs) ≡ cond (p z) (times same z xs) 0
  times_filter p z [] = sym (no_items (p z))
  times_filter p z (x ∷ xs) =
      times_cond (p x) z x (filter p xs)
      ∙ filter_step (same z x) (p x) (p z) (times same z xs) (times same z (filter p xs)) (times_filter p z xs) (λ e. ap p (sym (is.exact z x e)))

  -- ---- after `once`

  once_step : (b : Bool) (n m : ℕ) → m ≡ min 1 n → cond b 1 0 + cond (not b) m 0 ≡ min 1 (cond b 1 0 + n)
  once_step true n m e = omega arith
  once_step false n m e = omega arith

  pub times_once : (z : X) (xs : List X) → times same z (once same xs) ≡ min 1 (times same z xs)
  times_once z [] = refl
  times_once z (x ∷ xs) =
      let kept : times same z (filter (λ other. not (same x other)) (once same xs)) ≡ cond (not (same x z)) (times same z (once same xs)) 0
      = times_filter (λ other. not (same x other)) z (once same xs) in
      let reversed : same x z ≡ same z x = test_turns same is x z in
      let here : cond (not (same x z)) (times same z (once same xs)) 0 ≡ cond (not (same z x)) (times same z (once same xs)) 0 = ap (λ b. cond (not b) (times same z (once same xs)) 0) reversed in
      ap (λ n. one_like same z x + n) (kept ∙ here) ∙ once_step (same z x) (times same z xs) (times same z (once same xs)) (times_once z xs)

pub all_filter : {X : Type 0} (P : X → Type 0) (p : X → Bool) (xs : List X) → AllByRecursion P xs → AllByRecursion P (filter p xs)
all_filter P p [] all = tt
all_filter P p (x ∷ xs) all =
    let rest = all_filter P p xs all.1 in
    elim (p x) as (λ b. AllByRecursion P (cond b (x ∷ filter p xs) (filter p xs))) [ true ↦ (all.0, rest) | false ↦ rest ]

pub all_once : {X : Type 0} (same : X → X → Bool) (P : X → Type 0) (xs : List X) → AllByRecursion P xs → AllByRecursion P (once same xs)
all_once same P [] all = tt
all_once same P (x ∷ xs) all = (all.0, all_filter P (λ other. not (same x other)) (once same xs) (all_once same P xs all.1))

-- ---- in lists in order

repeated : (b : Bool) (here more : ℕ) → here ≡ cond b 1 0 → min 1 (cond b 1 0 + more) ≡ min 1 (cond b 1 0 + (here + more))
repeated true here more e = omega arith
repeated false here more e = omega arith

alone : (b : Bool) (kept more : ℕ) → kept ≡ min 1 more → (b ≡ true → more ≡ 0) → cond b 1 0 + kept ≡ min 1 (cond b 1 0 + more)
alone true kept more e h = omega (arith, h refl)
alone false kept more e h = omega arith

module _ {X : Type 0} {R : X → X → Ordering} (total : IsTotalOrder R) (exact : CmpEqualImpliesEq R) (same : X → X → Bool) (is : Decides same) where
  itself_not_below : (x : X) → is_gt (R x x) ≡ false
  itself_not_below x = ap is_gt (tied_itself total x)

  counted_once : (z : X) → one_like same z z ≡ 1
  counted_once z = ap (λ b. cond b 1 0) (is.itself z)

  -- the first of a list in order isn't above one that the list has
  least_first : (x y : X) (ys : List X) → Rising R (y ∷ ys) → 0 < times same x (y ∷ ys) → is_gt (R y x) ≡ false
  least_first x y ys up has = occurring same is (λ z. is_gt (R y z) ≡ false) x (y ∷ ys) has (itself_not_below y, up.0)

  pub same_from_counts : (xs ys : List X) → Rising R xs → Rising R ys → ((z : X) → times same z xs ≡ times same z ys) → xs ≡ ys
  same_from_counts [] [] up vp h = refl
  same_from_counts [] (y ∷ ys) up vp h = absurd (omega (arith, h y, counted_once y))
  same_from_counts (x ∷ xs) [] up vp h = absurd (omega (arith, h x, counted_once x))
  same_from_counts (x ∷ xs) (y ∷ ys) up vp h =
      let first : x ≡ y = same_first total exact x y
      (least_first x y ys vp (omega (arith, h x, counted_once x)))
      (least_first y x xs up (omega (arith, h y, counted_once y))) in
      let rest : xs ≡ ys = same_from_counts xs ys up.1 vp.1
      (λ z. let here : one_like same z x ≡ one_like same z y = ap (one_like same z) first in omega (arith, h z, here)) in cc

  times_sorted : (z : X) (xs : List X) → times same z (sorted_by R xs) ≡ times same z xs
  times_sorted z xs = times_permuted same z xs (sorted_by R xs) (sorted_by_permutes R xs)

  pub sorted_by_same : (xs ys : List X) → ((z : X) → times same z xs ≡ times same z ys) → sorted_by R xs ≡ sorted_by R ys
  sorted_by_same xs ys h =
      same_from_counts (sorted_by R xs) (sorted_by R ys) (sorted_by_rises total xs) (sorted_by_rises total ys)
      (λ z. times_sorted z xs ∙ h z ∙ sym (times_sorted z ys))

  pub permutation_from_counts : (xs ys : List X) → ((z : X) → times same z xs ≡ times same z ys) → IsPermutation xs ys
  permutation_from_counts xs ys h =
      IsPermutation-trans xs (sorted_by R xs) ys (sorted_by_permutes R xs)
      (subst (λ zs. IsPermutation zs ys) (sym (sorted_by_same xs ys h)) (IsPermutation-sym ys (sorted_by R ys) (sorted_by_permutes R ys)))

  -- lists of the same elements, each as often, have the same distinct elements
  pub once_permutes : (xs ys : List X) → IsPermutation xs ys → IsPermutation (once same xs) (once same ys)
  once_permutes xs ys same-items =
      permutation_from_counts (once same xs) (once same ys)
      (λ z. times_once same is z xs ∙ ap (min 1) (sym (times_permuted same z xs ys same-items)) ∙ sym (times_once same is z ys))

  -- what follows x is not k, if x is above k
  pub others_after : {Y : Type 0} (key : Y → X) (k x : X) (ys : List Y) → is_gt (R k x) ≡ false → same k x ≡ false
      → AllByRecursion (λ y. is_gt (R x (key y)) ≡ false) ys → AllByRecursion (λ y. same k (key y) ≡ false) ys
  others_after key k x [] up differs all = tt
  others_after key k x (y ∷ ys) up differs all = (
    ⊎_elim
        (λ (e : same k (key y) ≡ true).
        let back : is_gt (R x k) ≡ false = ap (λ z. is_gt (R x z)) (is.exact k (key y) e) ∙ all.0 in
        let alike : k ≡ x = same_first total exact k x back up in
        absurd (false≢true (sym differs ∙ ap (λ z. same z x) alike ∙ is.itself x)))
        (λ (e : same k (key y) ≡ false). e)
        (cases_Bool (same k (key y))),
    others_after key k x ys up differs all.1,
  )

  -- ---- `dedup` of a list in order

  all_dedup : (P : X → Type 0) (k : X) (xs : List X) → P k → AllByRecursion P xs → AllByRecursion P (dedup_from same k xs)
  all_dedup P k [] here all = (here, tt)
  all_dedup P k (x ∷ xs) here all =
      elim (same x k) as (λ b. AllByRecursion P (cond b (dedup_from same k xs) (k ∷ dedup_from same x xs)))
      [ true ↦ all_dedup P k xs here all.1 | false ↦ (here, all_dedup P x xs all.0 all.1) ]

  dedup_rises : (k : X) (xs : List X) → NoneBelow R k xs → Rising R xs → Rising R (dedup_from same k xs)
  dedup_rises k [] low up = (tt, tt)
  dedup_rises k (x ∷ xs) low up =
      elim (same x k) as (λ b. Rising R (cond b (dedup_from same k xs) (k ∷ dedup_from same x xs))) [
        | true ↦ dedup_rises k xs low.1 up.1
        | false ↦ (all_dedup (λ z. is_gt (R k z) ≡ false) x xs low.0 low.1, dedup_rises x xs up.0 up.1)
      ]

  times_dedup : (z k : X) (xs : List X) → NoneBelow R k xs → Rising R xs → times same z (dedup_from same k xs) ≡ min 1 (one_like same z k + times same z xs)
  times_dedup z k [] low up = elim (same z k) as (λ b. cond b 1 0 + 0 ≡ min 1 (cond b 1 0 + 0)) [ true ↦ refl | false ↦ refl ]
  times_dedup z k (x ∷ xs) low up =
      cond_both (same x k) (dedup_from same k xs) (k ∷ dedup_from same x xs) (λ ys. times same z ys ≡ min 1 (one_like same z k + (one_like same z x + times same z xs)))
      (λ (e : same x k ≡ true).
      let alike : one_like same z x ≡ one_like same z k = ap (one_like same z) (is.exact x k e) in
      times_dedup z k xs low.1 up.1 ∙ repeated (same z k) (one_like same z x) (times same z xs) alike)
      (λ (e : same x k ≡ false).
      let none : AllByRecursion (λ y. same k y ≡ false) (x ∷ xs)
      = (test_turns same is k x ∙ e, others_after (λ y. y) k x xs low.0 (test_turns same is k x ∙ e) up.0) in
      alone (same z k) (times same z (dedup_from same x xs)) (one_like same z x + times same z xs) (times_dedup z x xs up.0 up.1)
      (λ t. times_not same z (x ∷ xs) (subst (λ y. AllByRecursion (λ w. same y w ≡ false) (x ∷ xs)) (sym (is.exact z k t)) none)))

  dedup_rises_whole : (xs : List X) → Rising R xs → Rising R (dedup same xs)
  dedup_rises_whole [] up = tt
  dedup_rises_whole (x ∷ xs) up = dedup_rises x xs up.0 up.1

  times_dedup_whole : (z : X) (xs : List X) → Rising R xs → times same z (dedup same xs) ≡ min 1 (times same z xs)
  times_dedup_whole z [] up = refl
  times_dedup_whole z (x ∷ xs) up = times_dedup z x xs up.0 up.1

  -- `dedup` of a sorted list leaves its distinct elements, sorted
  pub dedup_sorted : (xs : List X) → dedup same (sorted_by R xs) ≡ sorted_by R (once same xs)
  dedup_sorted xs =
      same_from_counts (dedup same (sorted_by R xs)) (sorted_by R (once same xs)) (dedup_rises_whole (sorted_by R xs) (sorted_by_rises total xs)) (sorted_by_rises total (once same xs))
      (λ z. times_dedup_whole z (sorted_by R xs) (sorted_by_rises total xs) ∙ ap (min 1) (times_sorted z xs) ∙ sym (times_once same is z xs) ∙ sym (times_sorted z (once same xs)))
