-- The orders of values, rows, groups and answers are total, and only equal ones tie.
use Rattle.std.proofs.Common.{◌≡◌, List, [], ◌∷◌, Bool, true, false, Some, None, Ordering, Less, Equal, Greater, refl, sym, ap, ◌∙◌, slice_get}
use Rattle.std.specs.Cmp.{IsTotalOrder}
use Rattle.std.specs.Cmp.Lexicographic.{slice_cmp, options_total}
use Rattle.std.specs.Option.{option_cmp}
use Rattle.std.specs.Prelude.{if◌then◌else◌}
use Rattle.std.specs.Ordering.{ordering_then, ordering_reverse}
use Rattle.std.proofs.lemmas.Cmp.{lists_total, nat_list_cmp_total, int_cmp_total, on_total, then_total}
use Rattle.std.proofs.lemmas.Map.Lookups.{CmpEqualImpliesEq, exact_bytes, exact_signed}
use Rattle.rs_base.specs.declared.value.Value.{Value}
use Rattle.rs_base.specs.declared.value.Value.TheVariants.{Int, Text}
use Rattle.rs_base.specs.Value.{value_cmp, row_cmp}
use Rattle.rs_ast.specs.declared.shape.ShapeKey.{ShapeKey}
use Rattle.rs_answer.specs.Groups.{group_cmp}
use Rattle.rs_answer.specs.Sorting.{key_cmp, answer_cmp}

-- a chain of two answers is a tie exactly if both are
both_tie : (o p : Ordering) → ordering_then o p ≡ Equal → (o ≡ Equal) × (p ≡ Equal)
both_tie Less p h = cc
both_tie Equal p h = (refl, h)
both_tie Greater p h = cc

lists_exact : {K : Type 0} {R : K → K → Ordering} → CmpEqualImpliesEq R → CmpEqualImpliesEq (slice_cmp R)
lists_exact h [] [] e = refl
lists_exact h [] (y ∷ ys) e = cc
lists_exact h (x ∷ xs) [] e = cc
lists_exact {K} {R} h (x ∷ xs) (y ∷ ys) e =
    let ties = both_tie (R x y) (slice_cmp R xs ys) e in
    let first : x ≡ y = h x y ties.0 in
    let others : xs ≡ ys = lists_exact h xs ys ties.1 in cc

options_exact : {K : Type 0} {R : K → K → Ordering} → CmpEqualImpliesEq R → CmpEqualImpliesEq (option_cmp R)
options_exact h None None e = refl
options_exact h None (Some y) e = cc
options_exact h (Some x) None e = cc
options_exact h (Some x) (Some y) e = ap Some (h x y e)

---- an order reversed

reversed_tie : (o : Ordering) → ordering_reverse o ≡ Equal → o ≡ Equal
reversed_tie Less h = cc
reversed_tie Equal h = refl
reversed_tie Greater h = cc

reversed_total : {K : Type 0} {R : K → K → Ordering} → IsTotalOrder R → IsTotalOrder (λ x y. ordering_reverse (R x y))
reversed_total o = record {
  antisymm = λ x y. ap ordering_reverse (o.antisymm x y);
  trans = λ x y z p q. sym (o.antisymm z x) ∙ o.trans z y x (o.antisymm z y ∙ q) (o.antisymm y x ∙ p);
  congr = λ x y z p. ap ordering_reverse (o.congr x y z (reversed_tie _ p));
}

maybe_reversed_total : {K : Type 0} {R : K → K → Ordering} (turns : Bool) → IsTotalOrder R → IsTotalOrder (λ x y. if turns then ordering_reverse (R x y) else R x y)
maybe_reversed_total true o = reversed_total o
maybe_reversed_total false o = o

-- ---- values and rows

value_antisymm : (x y : Value) → value_cmp x y ≡ ordering_reverse (value_cmp y x)
value_antisymm (Int m) (Int n) = int_cmp_total.antisymm m n
value_antisymm (Int m) (Text t) = refl
value_antisymm (Text s) (Int n) = refl
value_antisymm (Text s) (Text t) = nat_list_cmp_total.antisymm s t

value_trans : (x y z : Value) → value_cmp x y ≡ Less → value_cmp y z ≡ Less → value_cmp x z ≡ Less
value_trans (Int l) (Int m) (Int n) p q = int_cmp_total.trans l m n p q
value_trans (Int l) (Int m) (Text t) p q = refl
value_trans (Int l) (Text t) (Int n) p q = cc
value_trans (Int l) (Text s) (Text t) p q = refl
value_trans (Text s) (Int m) z p q = cc
value_trans (Text s) (Text t) (Int n) p q = cc
value_trans (Text s) (Text t) (Text u) p q = nat_list_cmp_total.trans s t u p q

value_congr : (x y z : Value) → value_cmp x y ≡ Equal → value_cmp x z ≡ value_cmp y z
value_congr (Int l) (Int m) (Int n) p = int_cmp_total.congr l m n p
value_congr (Int l) (Int m) (Text t) p = refl
value_congr (Int l) (Text t) z p = cc
value_congr (Text s) (Int m) z p = cc
value_congr (Text s) (Text t) (Int n) p = refl
value_congr (Text s) (Text t) (Text u) p = nat_list_cmp_total.congr s t u p

pub value_total : IsTotalOrder value_cmp
value_total = record { antisymm = value_antisymm; trans = value_trans; congr = value_congr }

pub value_exact : CmpEqualImpliesEq value_cmp
value_exact (Int m) (Int n) e = ap Int (exact_signed m n e)
value_exact (Int m) (Text t) e = cc
value_exact (Text s) (Int n) e = cc
value_exact (Text s) (Text t) e = ap Text (exact_bytes s t e)

pub row_total : IsTotalOrder row_cmp
row_total = lists_total value_total

pub row_exact : CmpEqualImpliesEq row_cmp
row_exact = lists_exact value_exact

-- ---- the values of groups

pub group_total : IsTotalOrder group_cmp
group_total = lists_total (options_total value_total)

pub group_exact : CmpEqualImpliesEq group_cmp
group_exact = lists_exact (options_exact value_exact)

-- ---- answers

key_total : (key : ShapeKey) → IsTotalOrder (key_cmp key)
key_total key = maybe_reversed_total key.desc (on_total (λ (row : List Value). slice_get row key.item) (options_total value_total))

pub answer_total : (keys : List ShapeKey) → IsTotalOrder (answer_cmp keys)
answer_total [] = row_total
answer_total (key ∷ keys) = then_total (key_total key) (answer_total keys)

pub answer_exact : (keys : List ShapeKey) → CmpEqualImpliesEq (answer_cmp keys)
answer_exact [] a b e = row_exact a b e
answer_exact (key ∷ keys) a b e = answer_exact keys a b (both_tie (key_cmp key a b) (answer_cmp keys a b) e).1
