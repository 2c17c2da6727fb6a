-- The least and the greatest of values, and their sum.
use Rattle.std.proofs.Common.{◌≡◌, ◌<◌, List, [], ◌∷◌, Bool, true, false, cond, Some, Ordering, Less, Equal, Greater, fold, refl, sym, ap, ◌∙◌, arith, is_lt, is_gt, ⊎_elim, inl, inr, subst, ◌+ℤ◌}
use Rattle.std.specs.Cmp.{IsTotalOrder}
use Rattle.std.specs.Ordering.{is_eq, match_ordering, flip_args}
use Rattle.std.specs.Prelude.{◌⊎◌}
use Rattle.std.proofs.lemmas.Bool.{cond_both}
use Rattle.std.proofs.lemmas.Cmp.{tied_itself, back_total, upto}
use Rattle.std.proofs.lemmas.Int.{ints}
use Rattle.std.proofs.lemmas.List.Elements.{All-from_recursion}
use Rattle.rs_base.specs.declared.value.Value.{Value}
use Rattle.rs_base.specs.Value.{value_cmp}
use Rattle.rs_base.specs.Integers.{integer_of}
use Rattle.rs_answer.specs.ItemLaws.{LeastIsLeast, GreatestIsGreatest, SumIsOfAnyOrder}
use Rattle.rs_answer.specs.Items.{sum_of, lesser, greater}
use Rattle.rs_answer.specs.Sorting.{put_in_order, sorted_by}
use Rattle.rs_answer.proofs.Apart.{Contains-from_times}
use Rattle.rs_answer.proofs.Arranged.{NoneBelow, lt_as_gt}
use Rattle.rs_answer.proofs.Counted.{Decides, ties_decide, one_like, times, times_permuted, sorted_by_same}
use Rattle.rs_answer.proofs.Orders.{value_total, value_exact}

same_value : Value → Value → Bool
same_value one other = is_eq (value_cmp one other)

value_decides : Decides same_value
unfolding same_value
value_decides = ties_decide value_total value_exact

-- ---- the best of values by an order

module _ (R : Value → Value → Ordering) (total : IsTotalOrder R) (better : Value → Value → Value)
    (chosen : (v w : Value) → (better v w ≡ v) ⊎ (better v w ≡ w)) (low : (v w : Value) → is_gt (R (better v w) v) ≡ false)
    (low_other : (v w : Value) → is_gt (R (better v w) w) ≡ false) where
  best_low : (v : Value) (vs : List Value) → NoneBelow R (fold better v vs) (v ∷ vs)
  best_low v [] = (ap is_gt (tied_itself total v), tt)
  best_low v (w ∷ vs) =
      let rest = best_low (better v w) vs in
      let best = fold better (better v w) vs in
      (upto total best (better v w) v rest.0 (low v w), (upto total best (better v w) w rest.0 (low_other v w), rest.1))

  best_occurs : (v : Value) (vs : List Value) → 0 < times same_value (fold better v vs) (v ∷ vs)
  best_occurs v [] = let here : one_like same_value v v ≡ 1 = ap (λ b. cond b 1 0) (value_decides.itself v) in omega (arith, here)
  best_occurs v (w ∷ vs) =
      let best = fold better (better v w) vs in
      let rest = best_occurs (better v w) vs in
      ⊎_elim
      (λ (e : better v w ≡ v). let here : one_like same_value best (better v w) ≡ one_like same_value best v = ap (one_like same_value best) e in omega (arith, rest, here))
      (λ (e : better v w ≡ w). let here : one_like same_value best (better v w) ≡ one_like same_value best w = ap (one_like same_value best) e in omega (arith, rest, here))
      (chosen v w)

lt_no_gt : (o : Ordering) → is_lt o ≡ true → is_gt o ≡ false
lt_no_gt Less e = refl
lt_no_gt Equal e = refl
lt_no_gt Greater e = cc

itself_low : (v : Value) → is_gt (value_cmp v v) ≡ false
itself_low v = ap is_gt (tied_itself value_total v)

pub lesser_chosen : (v w : Value) → (lesser v w ≡ v) ⊎ (lesser v w ≡ w)
lesser_chosen v w = elim (is_lt (value_cmp w v)) as (λ b. (cond b w v ≡ v) ⊎ (cond b w v ≡ w)) [ true ↦ inr refl | false ↦ inl refl ]

pub greater_chosen : (v w : Value) → (greater v w ≡ v) ⊎ (greater v w ≡ w)
greater_chosen v w = elim (is_gt (value_cmp w v)) as (λ b. (cond b w v ≡ v) ⊎ (cond b w v ≡ w)) [ true ↦ inr refl | false ↦ inl refl ]

lesser_low : (v w : Value) → is_gt (value_cmp (lesser v w) v) ≡ false
lesser_low v w =
    cond_both (is_lt (value_cmp w v)) w v (λ best. is_gt (value_cmp best v) ≡ false) (λ e. lt_no_gt (value_cmp w v) e) (λ e. itself_low v)

lesser_low_other : (v w : Value) → is_gt (value_cmp (lesser v w) w) ≡ false
lesser_low_other v w =
    cond_both (is_lt (value_cmp w v)) w v (λ best. is_gt (value_cmp best w) ≡ false) (λ e. itself_low w) (λ e. sym (lt_as_gt value_total v w) ∙ e)

greater_high : (v w : Value) → is_gt (value_cmp v (greater v w)) ≡ false
greater_high v w =
    cond_both (is_gt (value_cmp w v)) w v (λ best. is_gt (value_cmp v best) ≡ false)
    (λ e. lt_no_gt (value_cmp v w) (lt_as_gt value_total w v ∙ e)) (λ e. itself_low v)

greater_high_other : (v w : Value) → is_gt (value_cmp w (greater v w)) ≡ false
greater_high_other v w =
    cond_both (is_gt (value_cmp w v)) w v (λ best. is_gt (value_cmp w best) ≡ false) (λ e. itself_low w) (λ e. e)

some_is : {X : Type 0} (x y : X) → Some x ≡ Some y → x ≡ y
some_is x y e = cc

pub least_is_least : LeastIsLeast
least_is_least [] least e = cc
least_is_least (v ∷ vs) least e =
    let is : fold lesser v vs ≡ least = some_is (fold lesser v vs) least e in (
      Contains-from_times same_value value_decides least (v ∷ vs)
          (subst (λ best. 0 < times same_value best (v ∷ vs)) is (best_occurs value_cmp value_total lesser lesser_chosen lesser_low lesser_low_other v vs)),
      All-from_recursion (λ value. is_gt (value_cmp least value) ≡ false) (v ∷ vs)
          (subst (λ best. NoneBelow value_cmp best (v ∷ vs)) is (best_low value_cmp value_total lesser lesser_chosen lesser_low lesser_low_other v vs)),
    )

pub greatest_is_greatest : GreatestIsGreatest
greatest_is_greatest [] greatest e = cc
greatest_is_greatest (v ∷ vs) greatest e =
    let is : fold greater v vs ≡ greatest = some_is (fold greater v vs) greatest e in (
      Contains-from_times same_value value_decides greatest (v ∷ vs)
          (subst (λ best. 0 < times same_value best (v ∷ vs)) is (best_occurs (flip_args value_cmp) (back_total value_total) greater greater_chosen greater_high greater_high_other v vs)),
      All-from_recursion (λ value. is_gt (value_cmp value greatest) ≡ false) (v ∷ vs)
          (subst (λ best. NoneBelow (flip_args value_cmp) best (v ∷ vs)) is (best_low (flip_args value_cmp) (back_total value_total) greater greater_chosen greater_high greater_high_other v vs)),
    )

-- ---- the sum

sum_put : (v : Value) (vs : List Value) → sum_of (put_in_order value_cmp v vs) ≡ integer_of v +ℤ sum_of vs
sum_put v [] = refl
sum_put v (w ∷ vs) =
    let rest = sum_put v vs in
    let later : integer_of w +ℤ sum_of (put_in_order value_cmp v vs) ≡ integer_of v +ℤ (integer_of w +ℤ sum_of vs) = omega (arith, ints, rest) in
    elim (value_cmp v w) as (λ o. sum_of (match_ordering o (v ∷ w ∷ vs) (v ∷ w ∷ vs) (w ∷ put_in_order value_cmp v vs)) ≡ integer_of v +ℤ (integer_of w +ℤ sum_of vs))
    [ Less ↦ refl | Equal ↦ refl | Greater ↦ later ]

sum_sorted : (vs : List Value) → sum_of (sorted_by value_cmp vs) ≡ sum_of vs
sum_sorted [] = refl
sum_sorted (v ∷ vs) = sum_put v (sorted_by value_cmp vs) ∙ ap (λ z. integer_of v +ℤ z) (sum_sorted vs)

pub sum_is_of_any_order : SumIsOfAnyOrder
sum_is_of_any_order given others same =
    let sorted : sorted_by value_cmp given ≡ sorted_by value_cmp others
    = sorted_by_same value_total value_exact same_value value_decides given others (λ z. sym (times_permuted same_value z given others same)) in
    sym (sum_sorted given) ∙ ap sum_of sorted ∙ sum_sorted others
