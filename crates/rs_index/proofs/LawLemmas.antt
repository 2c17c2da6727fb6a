-- What is in the pairs of a table, and that each number is there once.
use Rattle.std.proofs.Common.{◌≡◌, ◌⊎◌, inl, inr, ℕ, Bool, true, false, cond, List, [], ◌∷◌, map, Option, Some, None, refl, sym, ap, ◌∙◌, subst, arith}
use Rattle.std.specs.Prelude.{◌↔◌, Contains, filter, filter_map, fold, slice_get, nat_eq, IsTrue}
use Rattle.std.specs.List.{AllByRecursion, IsDistinct}
use Rattle.std.specs.List.Sorted.{IsStrictlySortedBy}
use Rattle.std.specs.Map.{keys_of}
use Rattle.std.specs.Option.{option_and_then}
use Rattle.std.specs.Ordering.{nat_cmp, ordering_reverse, match_ordering}
use Rattle.std.specs.Cmp.{IsTotalOrder}
use Rattle.std.specs.declared.cmp.Ordering.{Ordering}
use Rattle.std.specs.declared.cmp.Ordering.TheVariants.{Less, Equal, Greater}
use Rattle.std.proofs.lemmas.Bool.Decides.{nat_tests}
use Rattle.std.proofs.lemmas.Cmp.{nat_cmp_total, int_cmp_total, nat_list_cmp_total, then_total, on_total, tied_itself, nat_eq_equiv}
use Rattle.std.proofs.lemmas.List.Elements.{All-nil, All-cons, All-contains, Contains-append_left, Contains-append_right, Contains-append_cases, Contains-push}
use Rattle.std.proofs.lemmas.Map.Keys.{IsDistinct-cons, sorted_head, sorted_tail}
use Rattle.std.proofs.lemmas.Map.Lookups.{exact_unsigned, exact_signed, exact_bytes}
use Rattle.std.proofs.lemmas.Map.Views.{exact_unsigned_eq, Contains-from_lookup, lookup-from_Contains}
use Rattle.rs_base.specs.declared.value.Value.{Value}
use Rattle.rs_base.specs.declared.value.Value.TheVariants.{Int, Text}
use Rattle.rs_base.specs.Value.{value_cmp}
use Rattle.rs_ast.specs.Allows.{allows}
use Rattle.rs_ast.specs.declared.clause.Op.{Op}
use Rattle.rs_rows.specs.TableRows.{TableRows, IsTable, row_of}
use Rattle.rs_index.specs.Pairs.{pair_cmp, added, range_of, pair_of, pairs_of}
use Rattle.rs_index.specs.Satisfying.{value_satisfies, satisfies}

-- ---- an item of a list

abbrev pub In : {A : Type 0} → A → List A → Type 0
In x [] = ⊥
In x (y ∷ ys) = (y ≡ x) ⊎ In x ys

pub in_from_contains : {A : Type 0} (xs : List A) (x : A) → Contains xs x → In x xs
in_from_contains [] x has = absurd (All-contains (λ _. ⊥) [] x (All-nil (λ _. ⊥)) has)
in_from_contains {A} (y ∷ ys) x has =
    elim (Contains-append_cases (y ∷ []) ys x has) [ inl h ↦ inl (sym (All-contains (λ z. z ≡ y) (y ∷ []) x (All-cons (λ z. z ≡ y) y [] refl (All-nil (λ z. z ≡ y))) h)) | inr h ↦ inr (in_from_contains ys x h) ]

pub contains_from_in : {A : Type 0} (xs : List A) (x : A) → In x xs → Contains xs x
contains_from_in [] x h = absurd h
contains_from_in {A} (y ∷ ys) x h =
    elim h [ inl e ↦ (let P : A → Type 0 = λ z. Contains (y ∷ ys) z in subst P e (Contains-append_left (y ∷ []) ys y (Contains-push [] y))) | inr more ↦ Contains-append_right (y ∷ []) ys x (contains_from_in ys x more) ]

-- ---- the order of pairs

value_total : IsTotalOrder value_cmp
value_total = record { antisymm = turned; trans = chain; congr = alike }
  where
    turned : (x y : Value) → value_cmp x y ≡ ordering_reverse (value_cmp y x)
    turned (Int m) (Int n) = int_cmp_total.antisymm m n
    turned (Int m) (Text t) = refl
    turned (Text s) (Int n) = refl
    turned (Text s) (Text t) = nat_list_cmp_total.antisymm s t

    chain : (x y z : Value) → value_cmp x y ≡ Less → value_cmp y z ≡ Less → value_cmp x z ≡ Less
    chain (Int l) (Int m) (Int n) h k = int_cmp_total.trans l m n h k
    chain (Int l) (Int m) (Text t) h k = refl
    chain (Int l) (Text s) (Int n) h k = cc
    chain (Int l) (Text s) (Text t) h k = refl
    chain (Text r) (Int m) (Int n) h k = cc
    chain (Text r) (Int m) (Text t) h k = cc
    chain (Text r) (Text s) (Int n) h k = cc
    chain (Text r) (Text s) (Text t) h k = nat_list_cmp_total.trans r s t h k

    alike : (x y z : Value) → value_cmp x y ≡ Equal → value_cmp x z ≡ value_cmp y z
    alike (Int l) (Int m) (Int n) h = int_cmp_total.congr l m n h
    alike (Int l) (Int m) (Text t) h = refl
    alike (Int l) (Text s) z h = cc
    alike (Text r) (Int m) z h = cc
    alike (Text r) (Text s) (Int n) h = refl
    alike (Text r) (Text s) (Text t) h = nat_list_cmp_total.congr r s t h

pub pair_total : IsTotalOrder pair_cmp
pair_total = then_total (on_total (λ (p : Value × ℕ). p.0) value_total) (on_total (λ (p : Value × ℕ). p.1) nat_cmp_total)

same_value : (x y : Value) → value_cmp x y ≡ Equal → x ≡ y
same_value (Int m) (Int n) h = ap Int (exact_signed m n h)
same_value (Int m) (Text t) h = cc
same_value (Text s) (Int n) h = cc
same_value (Text s) (Text t) h = ap Text (exact_bytes s t h)

pub same_pair : (p q : Value × ℕ) → pair_cmp p q ≡ Equal → p ≡ q
same_pair p q h = by (value_cmp p.0 q.0) refl
  where
    by : (o : Ordering) → value_cmp p.0 q.0 ≡ o → p ≡ q
    by Less e = let no : Less ≡ Equal = rw e at h in cc
    by Equal e =
        let number : nat_cmp p.1 q.1 ≡ Equal = rw e at h in
        let value : p.0 ≡ q.0 = same_value p.0 q.0 e in
        let same : p.1 ≡ q.1 = exact_unsigned p.1 q.1 number in
        ap (λ v. (v, p.1)) value ∙ ap (λ n. (q.0, n)) same
    by Greater e = let no : Greater ≡ Equal = rw e at h in cc

-- ---- pairs that are added

in_added : (p q : Value × ℕ) (ps : List (Value × ℕ)) → In q (added p ps) → (p ≡ q) ⊎ In q ps
in_added p q [] h = h
in_added p q (r ∷ ps) h = by (pair_cmp p r) refl (in_added p q ps)
  where
    by : (o : Ordering) → pair_cmp p r ≡ o → (In q (added p ps) → (p ≡ q) ⊎ In q ps) → (p ≡ q) ⊎ ((r ≡ q) ⊎ In q ps)
    by Less e later = rw e at h
    by Equal e later = inr (rw e at h)
    by Greater e later =
        let found : (r ≡ q) ⊎ In q (added p ps) = rw e at h in
        elim found [ inl own ↦ inr (inl own) | inr more ↦ elim (later more) [ inl new ↦ inl new | inr old ↦ inr (inr old) ] ]

added_in : (p q : Value × ℕ) (ps : List (Value × ℕ)) → (p ≡ q) ⊎ In q ps → In q (added p ps)
added_in p q [] h = h
added_in p q (r ∷ ps) h = by (pair_cmp p r) refl (added_in p q ps)
  where
    by : (o : Ordering) → pair_cmp p r ≡ o → ((p ≡ q) ⊎ In q ps → In q (added p ps)) → In q (added p (r ∷ ps))
    by Less e later = rw e h
    by Equal e later = rw e (elim h [ inl new ↦ inl (sym (same_pair p r e) ∙ new) | inr old ↦ old ])
    by Greater e later = rw e (elim h [ inl new ↦ inr (later (inl new)) | inr old ↦ elim old [ inl own ↦ inl own | inr more ↦ inr (later (inr more)) ] ])

in_all : (q : Value × ℕ) (new old : List (Value × ℕ)) → In q (fold (λ pairs pair. added pair pairs) old new) → In q old ⊎ In q new
in_all q [] old h = inl h
in_all q (p ∷ new) old h =
    elim (in_all q new (added p old) h) [ inl before ↦ elim (in_added p q old before) [ inl own ↦ inr (inl own) | inr held ↦ inl held ] | inr later ↦ inr (inr later) ]

all_in : (q : Value × ℕ) (new old : List (Value × ℕ)) → In q old ⊎ In q new → In q (fold (λ pairs pair. added pair pairs) old new)
all_in q [] old h = elim h [ inl held ↦ held | inr none ↦ absurd none ]
all_in q (p ∷ new) old h =
    all_in q new (added p old) (elim h [ inl held ↦ inl (added_in p q old (inr held)) | inr later ↦ elim later [ inl own ↦ inl (added_in p q old (inl own)) | inr more ↦ inr more ] ])

-- ---- the pairs of rows

-- a row that has this value
pub record HasRow (column : ℕ) (pair : Value × ℕ) (rows : List (ℕ × List Value)) : Type 0 where
  pub row : List Value
  pub there : In (pair.1, row) rows
  pub value : slice_get row column ≡ Some pair.0

in_rows : (column : ℕ) (q : Value × ℕ) (rows : List (ℕ × List Value)) → In q (filter_map (pair_of column) rows) → HasRow column q rows
in_rows column q [] h = absurd h
in_rows column q (e ∷ rows) h = by (slice_get e.1 column) refl (λ more. later (in_rows column q rows more))
  where
    later : HasRow column q rows → HasRow column q (e ∷ rows)
    later rest = record { row = rest.row; there = inr rest.there; value = rest.value }

    by : (o : Option Value) → slice_get e.1 column ≡ o → (In q (filter_map (pair_of column) rows) → HasRow column q (e ∷ rows)) → HasRow column q (e ∷ rows)
    by None is further = further (rw is at h)
    by (Some v) is further =
        let found : ((v, e.0) ≡ q) ⊎ In q (filter_map (pair_of column) rows) = rw is at h in
        elim found [ inl own ↦ record { row = e.1; there = inl (ap (λ (n : ℕ). (n, e.1)) (ap (λ (p : Value × ℕ). p.1) own)); value = is ∙ ap Some (ap (λ (p : Value × ℕ). p.0) own) } | inr more ↦ further more ]

rows_in : (column : ℕ) (q : Value × ℕ) (row : List Value) (rows : List (ℕ × List Value)) → In (q.1, row) rows → slice_get row column ≡ Some q.0 → In q (filter_map (pair_of column) rows)
rows_in column q row [] there value = there
rows_in column q row (e ∷ rows) there value =
    elim there [ inl own ↦ own_in own | inr more ↦ later (slice_get e.1 column) refl (rows_in column q row rows more value) ]
  where
    own_in : (e ≡ (q.1, row)) → In q (filter_map (pair_of column) (e ∷ rows))
    own_in own =
        let is : slice_get e.1 column ≡ Some q.0 = ap (λ (p : ℕ × List Value). slice_get p.1 column) own ∙ value in
        rw is (inl (ap (λ (n : ℕ). (q.0, n)) (ap (λ (p : ℕ × List Value). p.0) own)))

    later : (o : Option Value) → slice_get e.1 column ≡ o → In q (filter_map (pair_of column) rows) → In q (filter_map (pair_of column) (e ∷ rows))
    later None is more = rw is more
    later (Some v) is more = rw is (inr more)

-- ---- the numbers of a range

pub record HasPair (test : Value × ℕ → Bool) (number : ℕ) (ps : List (Value × ℕ)) : Type 0 where
  pub value : Value
  pub there : In (value, number) ps
  pub passes : test (value, number) ≡ true

in_range : (test : Value × ℕ → Bool) (number : ℕ) (ps : List (Value × ℕ)) → In number (map (λ (r : Value × ℕ). r.1) (filter test ps)) → HasPair test number ps
in_range test number [] h = absurd h
in_range test number (p ∷ ps) h = by (test p) refl (λ more. later (in_range test number ps more))
  where
    later : HasPair test number ps → HasPair test number (p ∷ ps)
    later rest = record { value = rest.value; there = inr rest.there; passes = rest.passes }

    by : (b : Bool) → test p ≡ b → (In number (map (λ (r : Value × ℕ). r.1) (filter test ps)) → HasPair test number (p ∷ ps)) → HasPair test number (p ∷ ps)
    by false is further = further (rw is at h)
    by true is further =
        let found : (p.1 ≡ number) ⊎ In number (map (λ (r : Value × ℕ). r.1) (filter test ps)) = rw is at h in
        elim found [ inl own ↦ record { value = p.0; there = inl (ap (λ (n : ℕ). (p.0, n)) own); passes = sym (ap (λ (n : ℕ). test (p.0, n)) own) ∙ is } | inr more ↦ further more ]

range_in : (test : Value × ℕ → Bool) (number : ℕ) (value : Value) (ps : List (Value × ℕ)) → In (value, number) ps → test (value, number) ≡ true → In number (map (λ (r : Value × ℕ). r.1) (filter test ps))
range_in test number value [] there passes = there
range_in test number value (p ∷ ps) there passes =
    elim there [ inl own ↦ own_in own | inr more ↦ later (test p) refl (range_in test number value ps more passes) ]
  where
    own_in : (p ≡ (value, number)) → In number (map (λ (r : Value × ℕ). r.1) (filter test (p ∷ ps)))
    own_in own = let is : test p ≡ true = ap test own ∙ passes in rw is (inl (ap (λ (q : Value × ℕ). q.1) own))

    later : (b : Bool) → test p ≡ b → In number (map (λ (r : Value × ℕ). r.1) (filter test ps)) → In number (map (λ (r : Value × ℕ). r.1) (filter test (p ∷ ps)))
    later false is more = rw is more
    later true is more = rw is (inr more)

-- ---- the rows of a range

-- the row of this number has a value in the column, and that satisfies the comparison
pub record HasSatisfying (column : ℕ) (op : Op) (value : Value) (number : ℕ) (rows : List (ℕ × List Value)) : Type 0 where
  pub row : List Value
  pub there : In (number, row) rows
  pub own : Value
  pub has : slice_get row column ≡ Some own
  pub holds : allows op (value_cmp own value) ≡ true

-- a number of a range is that of such a row
pub row_of_range : (column : ℕ) (op : Op) (value : Value) (number : ℕ) (rows : List (ℕ × List Value)) → In number (range_of op value (pairs_of column rows)) → HasSatisfying column op value number rows
row_of_range column op value number rows has =
    let pair : HasPair (λ p. allows op (value_cmp p.0 value)) number (pairs_of column rows) = in_range (λ p. allows op (value_cmp p.0 value)) number (pairs_of column rows) has in
    let made : In {A = Value × ℕ} (pair.value, number) [] ⊎ In (pair.value, number) (filter_map (pair_of column) rows) = in_all (pair.value, number) (filter_map (pair_of column) rows) [] pair.there in
    let row : HasRow column (pair.value, number) rows = in_rows column (pair.value, number) rows (elim made [ inl none ↦ absurd none | inr it ↦ it ]) in
    record { row = row.row; there = row.there; own = pair.value; has = row.value; holds = pair.passes }

-- and the number of such a row is in the range
pub range_of_row : (column : ℕ) (op : Op) (value : Value) (number : ℕ) (rows : List (ℕ × List Value)) → HasSatisfying column op value number rows → In number (range_of op value (pairs_of column rows))
range_of_row column op value number rows it =
    let there : In (it.own, number) (pairs_of column rows) = all_in (it.own, number) (filter_map (pair_of column) rows) [] (inr (rows_in column (it.own, number) it.row rows it.there it.has)) in
    range_in (λ p. allows op (value_cmp p.0 value)) number it.own (pairs_of column rows) there it.holds

-- ---- the row of a number

distinct_none : IsDistinct nat_eq []
unfolding IsDistinct
distinct_none = tt

distinct_from_sorted : (ks : List ℕ) → IsStrictlySortedBy nat_cmp ks → IsDistinct nat_eq ks
distinct_from_sorted [] sorted = distinct_none
distinct_from_sorted (k ∷ ks) sorted = IsDistinct-cons nat_eq k ks (others ks (sorted_head nat_cmp k ks sorted)) (distinct_from_sorted ks (sorted_tail nat_cmp k ks sorted))
  where
    apart : (y : ℕ) → nat_cmp k y ≡ Less → nat_eq k y ≡ false
    apart y less = grind (arith, nat_tests)

    others : (ys : List ℕ) → AllByRecursion (λ y. nat_cmp k y ≡ Less) ys → AllByRecursion (λ y. nat_eq k y ≡ false) ys
    others [] above = tt
    others (y ∷ ys) above = (apart y above.0, others ys above.1)

-- where the numbers rise, the row with a number is the only one
pub row_of_in : (rows : List (ℕ × List Value)) (number : ℕ) (row : List Value) → IsStrictlySortedBy nat_cmp (keys_of rows) → In (number, row) rows → row_of number rows ≡ Some row
row_of_in rows number row rising there =
    lookup-from_Contains nat_eq_equiv number row rows (distinct_from_sorted (keys_of rows) rising) (contains_from_in rows (number, row) there)

row_found : (table : TableRows) (number : ℕ) (row : List Value) → IsTable table → In (number, row) table.rows → row_of number table.rows ≡ Some row
row_found table number row is there = row_of_in table.rows number row is.rising there

row_there : (table : TableRows) (number : ℕ) (row : List Value) → row_of number table.rows ≡ Some row → In (number, row) table.rows
row_there table number row found = in_from_contains table.rows (number, row) (Contains-from_lookup exact_unsigned_eq number row table.rows found)

-- ---- the laws

to_row : (table : TableRows) (column : ℕ) (op : Op) (value : Value) (number : ℕ) → IsTable table → Contains (range_of op value (pairs_of column table.rows)) number → IsTrue (satisfies op value column table number)
to_row table column op value number is has =
    let pair : HasPair (λ p. allows op (value_cmp p.0 value)) number (pairs_of column table.rows) = in_range (λ p. allows op (value_cmp p.0 value)) number (pairs_of column table.rows) (in_from_contains _ number has) in
    let made : In {A = Value × ℕ} (pair.value, number) [] ⊎ In (pair.value, number) (filter_map (pair_of column) table.rows) = in_all (pair.value, number) (filter_map (pair_of column) table.rows) [] pair.there in
    let row : HasRow column (pair.value, number) table.rows = in_rows column (pair.value, number) table.rows (elim made [ inl none ↦ absurd none | inr it ↦ it ]) in
    rw (row_found table number row.row is row.there, row.value) pair.passes

from_value : (table : TableRows) (column : ℕ) (op : Op) (value : Value) (number : ℕ) (row : List Value) → row_of number table.rows ≡ Some row → (o : Option Value) → slice_get row column ≡ o → IsTrue (value_satisfies op value o) → Contains (range_of op value (pairs_of column table.rows)) number
from_value table column op value number row found None e holds = absurd (cc)
from_value table column op value number row found (Some v) e holds =
    let there : In (v, number) (pairs_of column table.rows) = all_in (v, number) (filter_map (pair_of column) table.rows) [] (inr (rows_in column (v, number) row table.rows (row_there table number row found) e)) in
    contains_from_in _ number (range_in (λ p. allows op (value_cmp p.0 value)) number v (pairs_of column table.rows) there holds)

from_row : (table : TableRows) (column : ℕ) (op : Op) (value : Value) (number : ℕ) (o : Option (List Value)) → row_of number table.rows ≡ o → IsTrue (value_satisfies op value (option_and_then (λ row. slice_get row column) o)) → Contains (range_of op value (pairs_of column table.rows)) number
from_row table column op value number None e holds = absurd (cc)
from_row table column op value number (Some row) e holds = from_value table column op value number row e (slice_get row column) refl holds

pub gives_satisfying : (table : TableRows) (column : ℕ) (op : Op) (value : Value) (number : ℕ) → IsTable table → Contains (range_of op value (pairs_of column table.rows)) number ↔ IsTrue (satisfies op value column table number)
gives_satisfying table column op value number is = (to_row table column op value number is, from_row table column op value number (row_of number table.rows) refl)

-- ---- each number once

sorted_cons : (p : Value × ℕ) (ps : List (Value × ℕ)) → AllByRecursion (λ q. pair_cmp p q ≡ Less) ps → IsStrictlySortedBy pair_cmp ps → IsStrictlySortedBy pair_cmp (p ∷ ps)
unfolding IsStrictlySortedBy
sorted_cons p ps above rest = (above, rest)

sorted_none : IsStrictlySortedBy pair_cmp []
unfolding IsStrictlySortedBy
sorted_none = tt

above_added : (p q : Value × ℕ) (ps : List (Value × ℕ)) → pair_cmp q p ≡ Less → AllByRecursion (λ r. pair_cmp q r ≡ Less) ps → AllByRecursion (λ r. pair_cmp q r ≡ Less) (added p ps)
above_added p q [] less above = (less, tt)
above_added p q (r ∷ ps) less above =
    elim (pair_cmp p r) as (λ o. AllByRecursion (λ r. pair_cmp q r ≡ Less) (match_ordering o (p ∷ r ∷ ps) (r ∷ ps) (r ∷ added p ps)))
    [ Less ↦ (less, above) | Equal ↦ above | Greater ↦ (above.0, above_added p q ps less above.1) ]

above_chain : (p q : Value × ℕ) (ps : List (Value × ℕ)) → pair_cmp p q ≡ Less → AllByRecursion (λ r. pair_cmp q r ≡ Less) ps → AllByRecursion (λ r. pair_cmp p r ≡ Less) ps
above_chain p q [] less above = tt
above_chain p q (r ∷ ps) less above = (pair_total.trans p q r less above.0, above_chain p q ps less above.1)

sorted_added : (p : Value × ℕ) (ps : List (Value × ℕ)) → IsStrictlySortedBy pair_cmp ps → IsStrictlySortedBy pair_cmp (added p ps)
sorted_added p [] sorted = sorted_cons p [] tt sorted_none
sorted_added p (r ∷ ps) sorted = by (pair_cmp p r) refl (sorted_added p ps (sorted_tail pair_cmp r ps sorted))
  where
    by : (o : Ordering) → pair_cmp p r ≡ o → IsStrictlySortedBy pair_cmp (added p ps) → IsStrictlySortedBy pair_cmp (added p (r ∷ ps))
    by Less e later = rw e (sorted_cons p (r ∷ ps) (e, above_chain p r ps e (sorted_head pair_cmp r ps sorted)) sorted)
    by Equal e later = rw e sorted
    by Greater e later =
        let less : pair_cmp r p ≡ Less = pair_total.antisymm r p ∙ ap ordering_reverse e in
        rw e (sorted_cons r (added p ps) (above_added p r ps less (sorted_head pair_cmp r ps sorted)) later)

sorted_all : (new old : List (Value × ℕ)) → IsStrictlySortedBy pair_cmp old → IsStrictlySortedBy pair_cmp (fold (λ pairs pair. added pair pairs) old new)
sorted_all [] old sorted = sorted
sorted_all (p ∷ new) old sorted = sorted_all new (added p old) (sorted_added p old sorted)

-- a number has one value
abbrev HasOneValue : List (Value × ℕ) → Type 0
HasOneValue ps = (v w : Value) (n : ℕ) → In (v, n) ps → In (w, n) ps → v ≡ w

other_numbers : (test : Value × ℕ → Bool) (p : Value × ℕ) (ps : List (Value × ℕ)) → AllByRecursion (λ q. pair_cmp p q ≡ Less) ps → ((w : Value) → In (w, p.1) ps → p.0 ≡ w) → AllByRecursion (λ n. nat_eq p.1 n ≡ false) (map (λ (r : Value × ℕ). r.1) (filter test ps))
other_numbers test p [] above one = tt
other_numbers test p (q ∷ ps) above one = with_first (other_numbers test p ps above.1 (λ w there. one w (inr there)))
  where
    apart : (b : Bool) → nat_eq p.1 q.1 ≡ b → nat_eq p.1 q.1 ≡ false
    apart false e = e
    apart true e =
        let number : p.1 ≡ q.1 = exact_unsigned_eq p.1 q.1 e in
        let value : p.0 ≡ q.0 = one q.0 (inl (ap (λ (n : ℕ). (q.0, n)) (sym number))) in
        let same : p ≡ q = ap (λ (v : Value). (v, p.1)) value ∙ ap (λ (n : ℕ). (q.0, n)) number in
        let equal : pair_cmp p q ≡ Equal = ap (λ (r : Value × ℕ). pair_cmp p r) (sym same) ∙ tied_itself pair_total p in
        let less : pair_cmp p q ≡ Less = above.0 in
        cc

    with_first : AllByRecursion (λ n. nat_eq p.1 n ≡ false) (map (λ (r : Value × ℕ). r.1) (filter test ps)) → AllByRecursion (λ n. nat_eq p.1 n ≡ false) (map (λ (r : Value × ℕ). r.1) (filter test (q ∷ ps)))
    with_first rest = elim (test q) as (λ b. AllByRecursion (λ n. nat_eq p.1 n ≡ false) (map (λ (r : Value × ℕ). r.1) (cond b (q ∷ filter test ps) (filter test ps)))) [ true ↦ (apart (nat_eq p.1 q.1) refl, rest) | false ↦ rest ]

distinct_range : (test : Value × ℕ → Bool) (ps : List (Value × ℕ)) → IsStrictlySortedBy pair_cmp ps → HasOneValue ps → IsDistinct nat_eq (map (λ (r : Value × ℕ). r.1) (filter test ps))
distinct_range test [] sorted one = distinct_none
distinct_range test (p ∷ ps) sorted one = with_first (distinct_range test ps (sorted_tail pair_cmp p ps sorted) (λ v w n one_there other_there. one v w n (inr one_there) (inr other_there)))
  where
    with_first : IsDistinct nat_eq (map (λ (r : Value × ℕ). r.1) (filter test ps)) → IsDistinct nat_eq (map (λ (r : Value × ℕ). r.1) (filter test (p ∷ ps)))
    with_first rest =
        elim (test p) as (λ b. IsDistinct nat_eq (map (λ (r : Value × ℕ). r.1) (cond b (p ∷ filter test ps) (filter test ps))))
        [ true ↦ IsDistinct-cons nat_eq p.1 (map (λ (r : Value × ℕ). r.1) (filter test ps)) (other_numbers test p ps (sorted_head pair_cmp p ps sorted) (λ w there. one p.0 w p.1 (inl refl) (inr there))) rest | false ↦ rest ]

row_of_pair : (table : TableRows) (column : ℕ) (v : Value) (n : ℕ) → IsTable table → In (v, n) (pairs_of column table.rows) → option_and_then (λ row. slice_get row column) (row_of n table.rows) ≡ Some v
row_of_pair table column v n is there =
    let made : In {A = Value × ℕ} (v, n) [] ⊎ In (v, n) (filter_map (pair_of column) table.rows) = in_all (v, n) (filter_map (pair_of column) table.rows) [] there in
    let row : HasRow column (v, n) table.rows = in_rows column (v, n) table.rows (elim made [ inl none ↦ absurd none | inr it ↦ it ]) in
    rw (row_found table n row.row is row.there, row.value) refl

pub gives_each_once : (table : TableRows) (column : ℕ) (op : Op) (value : Value) → IsTable table → IsDistinct nat_eq (range_of op value (pairs_of column table.rows))
gives_each_once table column op value is =
    distinct_range (λ p. allows op (value_cmp p.0 value)) (pairs_of column table.rows) (sorted_all (filter_map (pair_of column) table.rows) [] sorted_none) one
  where
    one : HasOneValue (pairs_of column table.rows)
    one v w n first second = let e : Some v ≡ Some w = sym (row_of_pair table column v n is first) ∙ row_of_pair table column w n is second in cc
