-- Ranges by bounds, and the ranges of the two parts of an index.
use Rattle.std.proofs.Common.{◌≡◌, ◌≢◌, ℕ, ◌<◌, ◌-◌, ◌^◌, ℤ, Bool, true, false, cond, not, ◌&&◌, List, [], ◌∷◌, ◌++◌, map, refl, sym, ap, ◌∙◌, arith}
use Rattle.std.specs.Prelude.{filter, All}
use Rattle.std.specs.Ordering.{nat_cmp, int_cmp, is_eq, is_lt, is_le, is_gt, ordering_then, ordering_reverse}
use Rattle.std.specs.declared.cmp.Ordering.{Ordering}
use Rattle.std.specs.declared.cmp.Ordering.TheVariants.{Less, Equal, Greater}
use Rattle.std.specs.BTreeMap.Range.{range_contains, IsLeBy, IsLtBy}
use Rattle.std.specs.Range.Bound.{IsForward, bound_map}
use Rattle.std.proofs.lemmas.Bool.Decides.{nat_tests}
use Rattle.std.proofs.lemmas.Cmp.{nat_list_cmp_total, int_cmp_total, tied_itself}
use Rattle.std.proofs.lemmas.List.{map-append}
use Rattle.std.proofs.lemmas.List.Elements.{filter-append, filter_agree, All-head, All-tail}
use Rattle.rs_base.specs.declared.value.Value.TheVariants.{Int, Text}
use Rattle.rs_base.specs.Value.{value_cmp}
use Rattle.rs_ast.specs.Allows.{allows}
use Rattle.rs_ast.specs.declared.clause.Op.{Op}
use Rattle.rs_ast.specs.declared.clause.Op.TheVariants as ops
use Rattle.rs_index.specs.Bounds.{bounds_of}
use Rattle.rs_index.specs.IntPairs.{int_pair_cmp}
use Rattle.rs_index.specs.IndexInside.{int_pair, text_pair}
use Rattle.rs_index.specs.Pairs.{range_of}
use Rattle.rs_index.specs.TextPairs.{text_cmp}

-- ---- a key between the bounds

-- `o` is how the value is to the key, and `a` and `b` how the first and the last key of the value are to a key of the same value
pub between : {K : Type 0} (R : K → K → Ordering) (first last q : K) (op : Op) → op ≢ ops.Ne → (o a b : Ordering) → R first q ≡ ordering_then o a → R last q ≡ ordering_then o b → is_le a ≡ true → is_lt b ≡ false → range_contains R (bounds_of op first last).0 (bounds_of op first last).1 q ≡ allows op (ordering_reverse o)
between R first last q ops.Eq is o a b e f low high = rw (e, f) (by o)
  where
    by : (o : Ordering) → (is_le (ordering_then o a) && not (is_lt (ordering_then o b))) ≡ is_eq (ordering_reverse o)
    by Less = refl
    by Equal = rw (low, high) refl
    by Greater = refl
between R first last q ops.Ne is o a b e f low high = absurd (is refl)
between R first last q ops.Lt is o a b e f low high = rw e (by o)
  where
    by : (o : Ordering) → not (is_le (ordering_then o a)) ≡ is_lt (ordering_reverse o)
    by Less = refl
    by Equal = rw low refl
    by Greater = refl
between R first last q ops.Le is o a b e f low high = rw f (by o)
  where
    by : (o : Ordering) → not (is_lt (ordering_then o b)) ≡ is_le (ordering_reverse o)
    by Less = refl
    by Equal = rw high refl
    by Greater = refl
between R first last q ops.Gt is o a b e f low high = rw f (by o)
  where
    by : (o : Ordering) → (is_lt (ordering_then o b) && true) ≡ is_gt (ordering_reverse o)
    by Less = refl
    by Equal = rw high refl
    by Greater = refl
between R first last q ops.Ge is o a b e f low high = rw e (by o)
  where
    by : (o : Ordering) → (is_le (ordering_then o a) && true) ≡ allows ops.Ge (ordering_reverse o)
    by Less = refl
    by Equal = rw low refl
    by Greater = refl

then_equal : (o : Ordering) → o ≡ ordering_then o Equal
then_equal Less = refl
then_equal Equal = refl
then_equal Greater = refl

-- a text between the bounds
pub text_between : (op : Op) → op ≢ ops.Ne → (t q : List ℕ) → range_contains text_cmp (bounds_of op t t).0 (bounds_of op t t).1 q ≡ allows op (text_cmp q t)
text_between op is t q =
    between text_cmp t t q op is (text_cmp t q) Equal Equal (then_equal (text_cmp t q)) (then_equal (text_cmp t q)) refl refl
    ∙ ap (allows op) (sym (nat_list_cmp_total.antisymm q t))

least : (m : ℕ) → is_le (nat_cmp 0 m) ≡ true
least m = grind (arith, nat_tests)

greatest : (m : ℕ) → m < 2 ^ 64 → is_lt (nat_cmp (2 ^ 64 - 1) m) ≡ false
greatest m within = grind (arith, nat_tests)

int_between : (op : Op) → op ≢ ops.Ne → (z : ℤ) (q : ℤ × ℕ) → q.1 < 2 ^ 64 → range_contains int_pair_cmp (bounds_of op (z, 0) (z, 2 ^ 64 - 1)).0 (bounds_of op (z, 0) (z, 2 ^ 64 - 1)).1 q ≡ allows op (int_cmp q.0 z)
int_between op is z q within =
    between int_pair_cmp (z, 0) (z, 2 ^ 64 - 1) q op is (int_cmp z q.0) (nat_cmp 0 q.1) (nat_cmp (2 ^ 64 - 1) q.1) refl refl (least q.1) (greatest q.1 within)
    ∙ ap (allows op) (sym (int_cmp_total.antisymm q.0 z))

-- the integers between the bounds
pub ints_between : (op : Op) → op ≢ ops.Ne → (z : ℤ) (ks : List (ℤ × ℕ)) → All (λ k. k.1 < 2 ^ 64) ks → filter (range_contains int_pair_cmp (bounds_of op (z, 0) (z, 2 ^ 64 - 1)).0 (bounds_of op (z, 0) (z, 2 ^ 64 - 1)).1) ks ≡ filter (λ k. allows op (int_cmp k.0 z)) ks
ints_between op is z [] within = refl
ints_between op is z (k ∷ ks) within =
    rw (int_between op is z k (All-head (λ k. k.1 < 2 ^ 64) k ks within), ints_between op is z ks (All-tail (λ k. k.1 < 2 ^ 64) k ks within)) refl

-- ---- the two parts of an index

-- a filter of what is mapped
mapped : {A B C : Type 0} (f : A → B) (g : B → C) (test : B → Bool) (xs : List A) → map g (filter test (map f xs)) ≡ map (λ x. g (f x)) (filter (λ x. test (f x)) xs)
mapped f g test [] = refl
mapped {A} {B} {C} f g test (x ∷ xs) =
    elim (test (f x)) as (λ b. map g (cond b (f x ∷ filter test (map f xs)) (filter test (map f xs))) ≡ map (λ y. g (f y)) (cond b (x ∷ filter (λ y. test (f y)) xs) (filter (λ y. test (f y)) xs)))
    [ true ↦ ap (λ (l : List C). g (f x) ∷ l) (mapped f g test xs) | false ↦ mapped f g test xs ]

pub all_pass : {A : Type 0} (xs : List A) → filter (λ _. true) xs ≡ xs
all_pass [] = refl
all_pass {A} (x ∷ xs) = ap (λ (l : List A). x ∷ l) (all_pass xs)

none_pass : {A : Type 0} (xs : List A) → filter (λ _. false) xs ≡ []
none_pass [] = refl
none_pass (x ∷ xs) = none_pass xs

all_or_none : {A : Type 0} (b : Bool) (g : A → ℕ) (xs : List A) → map g (filter (λ _. b) xs) ≡ cond b (map g xs) []
all_or_none true g xs = ap (map g) (all_pass xs)
all_or_none false g xs = ap (map g) (none_pass xs)

-- a range by an integer: of the texts all, if they are asked for as above, or none
pub range_by_int : (op : Op) (z : ℤ) (ks : List (ℤ × ℕ)) (ts : List (List ℕ × ℕ)) → range_of op (Int z) (map int_pair ks ++ map text_pair ts) ≡ map (λ k. k.1) (filter (λ k. allows op (int_cmp k.0 z)) ks) ++ cond (allows op Greater) (map (λ t. t.1) ts) []
range_by_int op z ks ts =
    rw (filter-append (λ p. allows op (value_cmp p.0 (Int z))) (map int_pair ks) (map text_pair ts), map-append (λ p. p.1) (filter (λ p. allows op (value_cmp p.0 (Int z))) (map int_pair ks)) (filter (λ p. allows op (value_cmp p.0 (Int z))) (map text_pair ts)), mapped int_pair (λ p. p.1) (λ p. allows op (value_cmp p.0 (Int z))) ks, mapped text_pair (λ p. p.1) (λ p. allows op (value_cmp p.0 (Int z))) ts)
    (ap (λ (l : List ℕ). map (λ k. k.1) (filter (λ k. allows op (int_cmp k.0 z)) ks) ++ l) (all_or_none (allows op Greater) (λ t. t.1) ts))

-- a range by a text: of the integers all, if they are asked for as below, or none
pub range_by_text : (op : Op) (t : List ℕ) (ks : List (ℤ × ℕ)) (ts : List (List ℕ × ℕ)) → range_of op (Text t) (map int_pair ks ++ map text_pair ts) ≡ cond (allows op Less) (map (λ k. k.1) ks) [] ++ map (λ p. p.1) (filter (λ p. allows op (text_cmp p.0 t)) ts)
range_by_text op t ks ts =
    rw (filter-append (λ p. allows op (value_cmp p.0 (Text t))) (map int_pair ks) (map text_pair ts), map-append (λ p. p.1) (filter (λ p. allows op (value_cmp p.0 (Text t))) (map int_pair ks)) (filter (λ p. allows op (value_cmp p.0 (Text t))) (map text_pair ts)), mapped int_pair (λ p. p.1) (λ p. allows op (value_cmp p.0 (Text t))) ks, mapped text_pair (λ p. p.1) (λ p. allows op (value_cmp p.0 (Text t))) ts)
    (ap (λ (l : List ℕ). l ++ map (λ p. p.1) (filter (λ p. allows op (text_cmp p.0 t)) ts)) (all_or_none (allows op Less) (λ k. k.1) ks))

-- ---- bounds

-- the bounds don't run backwards
pub forward : {K : Type 0} (R : K → K → Ordering) (first last : K) (op : Op) → is_gt (R first last) ≡ false → IsForward (IsLeBy R) (IsLtBy R) (bounds_of op first last).0 (bounds_of op first last).1
forward R first last ops.Eq h = h
forward R first last ops.Ne h = tt
forward R first last ops.Lt h = tt
forward R first last ops.Le h = tt
forward R first last ops.Gt h = tt
forward R first last ops.Ge h = tt

pub int_forward : (z : ℤ) → is_gt (int_pair_cmp (z, 0) (z, 2 ^ 64 - 1)) ≡ false
int_forward z = rw (tied_itself int_cmp_total z) refl

pub text_forward : (t : List ℕ) → is_gt (text_cmp t t) ≡ false
text_forward t = rw (tied_itself nat_list_cmp_total t) refl

-- the bounds of what a function gives of the keys
pub first_bound : {A K : Type 0} (f : A → K) (first last : A) (op : Op) → bound_map f (bounds_of op first last).0 ≡ (bounds_of op (f first) (f last)).0
first_bound f first last ops.Eq = refl
first_bound f first last ops.Ne = refl
first_bound f first last ops.Lt = refl
first_bound f first last ops.Le = refl
first_bound f first last ops.Gt = refl
first_bound f first last ops.Ge = refl

pub last_bound : {A K : Type 0} (f : A → K) (first last : A) (op : Op) → bound_map f (bounds_of op first last).1 ≡ (bounds_of op (f first) (f last)).1
last_bound f first last ops.Eq = refl
last_bound f first last ops.Ne = refl
last_bound f first last ops.Lt = refl
last_bound f first last ops.Le = refl
last_bound f first last ops.Gt = refl
last_bound f first last ops.Ge = refl

-- the texts between the bounds
pub texts_between : {A X : Type 0} (f : A → List ℕ) (a : A) (op : Op) → op ≢ ops.Ne → (es : List (List ℕ × X)) → filter (λ e. range_contains text_cmp (bound_map f (bounds_of op a a).0) (bound_map f (bounds_of op a a).1) e.0) es ≡ filter (λ e. allows op (text_cmp e.0 (f a))) es
texts_between f a op is es =
    rw (first_bound f a a op, last_bound f a a op)
    (filter_agree (λ e. range_contains text_cmp (bounds_of op (f a) (f a)).0 (bounds_of op (f a) (f a)).1 e.0) (λ e. allows op (text_cmp e.0 (f a))) (λ e. text_between op is (f a) e.0) es)

-- all numbers or none
pub if_mapped : (b : Bool) (ks : List (ℤ × ℕ)) → map (λ k. k.1) (cond b ks []) ≡ cond b (map (λ k. k.1) ks) []
if_mapped true ks = refl
if_mapped false ks = refl
