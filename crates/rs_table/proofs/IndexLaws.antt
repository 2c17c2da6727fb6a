-- An index follows its rows: what one row more, less or another in its place changes in the pairs of a column.
use Rattle.std.proofs.Common.{◌≡◌, ℕ, Bool, true, false, cond, List, [], ◌∷◌, ◌++◌, Option, Some, None, refl, sym, ap, ◌∙◌, subst, arith}
use Rattle.std.specs.Prelude.{filter_map, fold, not, ◌==◌, slice_get}
use Rattle.std.specs.List.{AllByRecursion}
use Rattle.std.specs.List.Sorted.{IsStrictlySortedBy}
use Rattle.std.specs.Option.{option_map_or}
use Rattle.std.specs.Ordering.{nat_cmp, is_eq}
use Rattle.std.specs.declared.cmp.Ordering.{Ordering}
use Rattle.std.specs.declared.cmp.Ordering.TheVariants.{Less, Equal, Greater}
use Rattle.std.proofs.lemmas.Bool.Decides.{nat_tests}
use Rattle.std.proofs.lemmas.Map.Keys.{sorted_head, sorted_tail}
use Rattle.rs_base.specs.declared.value.Value.{Value}
use Rattle.rs_base.specs.Value.{value_cmp}
use Rattle.rs_rows.specs.TableRows.{RowsByNumber, numbers, row_of, without, with_row}
use Rattle.rs_rows.proofs.TableLaws.{same_test, without_none, with_row_none}
use Rattle.rs_index.specs.Pairs.{pair_cmp, pair_of, pairs_of, added, dropped}
use Rattle.rs_index.proofs.LawLemmas.{pair_total, same_pair}
use Rattle.rs_table.proofs.SortedKeys.{all_put, put_in_order, taken_back, both_put, put_and_taken}

-- the pairs of rows, put into others
abbrev Onto : ℕ → List (Value × ℕ) → RowsByNumber → List (Value × ℕ)
Onto column pairs rows = fold (λ pairs pair. added pair pairs) pairs (filter_map (pair_of column) rows)

abbrev With : ℕ → ℕ × List Value → List (Value × ℕ) → List (Value × ℕ)
With column entry pairs = option_map_or (λ pair. added pair pairs) (pair_of column entry) pairs

abbrev Without : ℕ → ℕ × List Value → List (Value × ℕ) → List (Value × ℕ)
Without column entry pairs = option_map_or (λ pair. dropped pair pairs) (pair_of column entry) pairs

-- no pair has this number
abbrev Lacks : ℕ → List (Value × ℕ) → Type 0
Lacks number pairs = AllByRecursion (λ (pair : Value × ℕ). (number == pair.1) ≡ false) pairs

-- no row has this number
abbrev NoRow : ℕ → RowsByNumber → Type 0
NoRow number rows = AllByRecursion (λ (entry : ℕ × List Value). (number == entry.0) ≡ false) rows

one_more : (column : ℕ) (pairs : List (Value × ℕ)) (entry : ℕ × List Value) (rows : RowsByNumber) → Onto column pairs (entry ∷ rows) ≡ Onto column (With column entry pairs) rows
one_more column pairs entry rows = by (slice_get entry.1 column) refl
  where
    by : (o : Option Value) → slice_get entry.1 column ≡ o → Onto column pairs (entry ∷ rows) ≡ Onto column (With column entry pairs) rows
    by None is = rw is refl
    by (Some value) is = rw is refl

-- ---- one row at the end

onto_end : (column : ℕ) (pairs : List (Value × ℕ)) (entry : ℕ × List Value) (rows : RowsByNumber) → Onto column pairs (rows ++ entry ∷ []) ≡ With column entry (Onto column pairs rows)
onto_end column pairs entry [] = one_more column pairs entry []
onto_end column pairs entry (first ∷ rows) =
    one_more column pairs first (rows ++ entry ∷ []) ∙ onto_end column (With column first pairs) entry rows
    ∙ ap (With column entry) (sym (one_more column pairs first rows))

pub pairs_inserted : (column : ℕ) (entry : ℕ × List Value) (rows : RowsByNumber) → pairs_of column (rows ++ entry ∷ []) ≡ With column entry (pairs_of column rows)
pairs_inserted column entry rows = onto_end column [] entry rows

-- ---- pairs that differ

apart : (value : Value) (number : ℕ) (pair : Value × ℕ) → (number == pair.1) ≡ false → is_eq (pair_cmp (value, number) pair) ≡ false
apart value number pair differ = by (value_cmp value pair.0) refl
  where
    by : (r : Ordering) → value_cmp value pair.0 ≡ r → is_eq (pair_cmp (value, number) pair) ≡ false
    by Less h = rw h refl
    by Equal h = rw h (same_test number pair.1 ∙ differ)
    by Greater h = rw h refl

all_apart : (value : Value) (number : ℕ) (pairs : List (Value × ℕ)) → Lacks number pairs → AllByRecursion (λ pair. is_eq (pair_cmp (value, number) pair) ≡ false) pairs
all_apart value number [] lacks = tt
all_apart value number (pair ∷ pairs) lacks = (apart value number pair lacks.0, all_apart value number pairs lacks.1)

with_in_order : (column : ℕ) (entry : ℕ × List Value) (pairs : List (Value × ℕ)) → IsStrictlySortedBy pair_cmp pairs → IsStrictlySortedBy pair_cmp (With column entry pairs)
with_in_order column entry pairs up = by (slice_get entry.1 column) refl
  where
    by : (o : Option Value) → slice_get entry.1 column ≡ o → IsStrictlySortedBy pair_cmp (With column entry pairs)
    by None is = rw is up
    by (Some value) is = rw is (put_in_order pair_total (value, entry.0) pairs up)

with_lacks : (column number : ℕ) (entry : ℕ × List Value) (pairs : List (Value × ℕ)) → (number == entry.0) ≡ false → Lacks number pairs → Lacks number (With column entry pairs)
with_lacks column number entry pairs differ lacks = by (slice_get entry.1 column) refl
  where
    by : (o : Option Value) → slice_get entry.1 column ≡ o → Lacks number (With column entry pairs)
    by None is = rw is lacks
    by (Some value) is = rw is (all_put pair_total (λ (pair : Value × ℕ). (number == pair.1) ≡ false) (value, entry.0) pairs differ lacks)

-- ---- other rows before or after

taken_over : (column number : ℕ) (value : Value) (rows : RowsByNumber) (pairs : List (Value × ℕ)) → NoRow number rows → IsStrictlySortedBy pair_cmp pairs
    → dropped (value, number) (Onto column pairs rows) ≡ Onto column (dropped (value, number) pairs) rows
taken_over column number value [] pairs none up = refl
taken_over column number value (entry ∷ rows) pairs none up =
    by (λ ps in_order. taken_over column number value rows ps none.1 in_order) (slice_get entry.1 column) refl
  where
    by : ((ps : List (Value × ℕ)) → IsStrictlySortedBy pair_cmp ps → dropped (value, number) (Onto column ps rows) ≡ Onto column (dropped (value, number) ps) rows)
        → (o : Option Value) → slice_get entry.1 column ≡ o → dropped (value, number) (Onto column pairs (entry ∷ rows)) ≡ Onto column (dropped (value, number) pairs) (entry ∷ rows)
    by later None is = rw is (later pairs up)
    by later (Some own) is =
        rw is (later (added (own, entry.0) pairs) (put_in_order pair_total (own, entry.0) pairs up)
        ∙ ap (λ ps. Onto column ps rows) (put_and_taken pair_total (own, entry.0) (value, number) pairs (apart value number (own, entry.0) none.0) up))

put_over : (column : ℕ) (pair : Value × ℕ) (rows : RowsByNumber) (pairs : List (Value × ℕ)) → added pair (Onto column pairs rows) ≡ Onto column (added pair pairs) rows
put_over column pair [] pairs = refl
put_over column pair (entry ∷ rows) pairs = by (put_over column pair rows) (slice_get entry.1 column) refl
  where
    by : ((ps : List (Value × ℕ)) → added pair (Onto column ps rows) ≡ Onto column (added pair ps) rows) → (o : Option Value) → slice_get entry.1 column ≡ o → added pair (Onto column pairs (entry ∷ rows)) ≡ Onto column (added pair pairs) (entry ∷ rows)
    by later None is = rw is (later pairs)
    by later (Some own) is =
        rw is (later (added (own, entry.0) pairs)
        ∙ ap (λ ps. Onto column ps rows) (both_put pair_total same_pair (own, entry.0) pair pairs))

with_over : (column : ℕ) (entry : ℕ × List Value) (rows : RowsByNumber) (pairs : List (Value × ℕ)) → With column entry (Onto column pairs rows) ≡ Onto column (With column entry pairs) rows
with_over column entry rows pairs = by (slice_get entry.1 column) refl
  where
    by : (o : Option Value) → slice_get entry.1 column ≡ o → With column entry (Onto column pairs rows) ≡ Onto column (With column entry pairs) rows
    by None is = rw is refl
    by (Some own) is = rw is (put_over column (own, entry.0) rows pairs)

-- a row that was put in is taken out again, whatever comes after it
back : (column number : ℕ) (row : List Value) (rows : RowsByNumber) (pairs : List (Value × ℕ)) → NoRow number rows → Lacks number pairs → IsStrictlySortedBy pair_cmp pairs
    → Without column (number, row) (Onto column (With column (number, row) pairs) rows) ≡ Onto column pairs rows
back column number row rows pairs none lacks up = by (slice_get row column) refl
  where
    by : (o : Option Value) → slice_get row column ≡ o → Without column (number, row) (Onto column (With column (number, row) pairs) rows) ≡ Onto column pairs rows
    by None is = rw is refl
    by (Some value) is =
        rw is (taken_over column number value rows (added (value, number) pairs) none (put_in_order pair_total (value, number) pairs up)
        ∙ ap (λ ps. Onto column ps rows) (taken_back pair_total (value, number) pairs (all_apart value number pairs lacks)))

-- ---- the row of a number

none_after : (number : ℕ) (rows : RowsByNumber) → AllByRecursion (λ y. nat_cmp number y ≡ Less) (numbers rows) → NoRow number rows
none_after number [] above = tt
none_after number (entry ∷ rows) above = (let less : nat_cmp number entry.0 ≡ Less = above.0 in grind (arith, nat_tests), none_after number rows above.1)

no_row : (number : ℕ) (rows : RowsByNumber) → NoRow number rows → row_of number rows ≡ None
no_row number [] none = refl
no_row number (entry ∷ rows) none = ap (λ b. cond b (Some entry.1) (row_of number rows)) none.0 ∙ no_row number rows none.1

same_number : (number other : ℕ) → (number == other) ≡ true → number ≡ other
same_number number other same = grind (arith, nat_tests)

some_same : (one other : List Value) → Some one ≡ Some other → one ≡ other
some_same one other same = cc

-- without the row of a number
onto_without : (column number : ℕ) (row : List Value) (rows : RowsByNumber) (pairs : List (Value × ℕ)) → IsStrictlySortedBy nat_cmp (numbers rows) → row_of number rows ≡ Some row
    → Lacks number pairs → IsStrictlySortedBy pair_cmp pairs → Without column (number, row) (Onto column pairs rows) ≡ Onto column pairs (without number rows)
onto_without column number row [] pairs rising found lacks up = let no : None ≡ Some row = found in cc
onto_without column number row (entry ∷ rows) pairs rising found lacks up =
    by (onto_without column number row rows (With column entry pairs) (sorted_tail nat_cmp entry.0 (numbers rows) rising)) (number == entry.0) refl
  where
    Claim : Type 0
    Claim = Without column (number, row) (Onto column pairs (entry ∷ rows)) ≡ Onto column pairs (without number (entry ∷ rows))

    by : (row_of number rows ≡ Some row → Lacks number (With column entry pairs) → IsStrictlySortedBy pair_cmp (With column entry pairs)
        → Without column (number, row) (Onto column (With column entry pairs) rows) ≡ Onto column (With column entry pairs) (without number rows))
        → (b : Bool) → (number == entry.0) ≡ b → Claim
    by others true is =
        let same : number ≡ entry.0 = same_number number entry.0 is in
        let own : entry.1 ≡ row = some_same entry.1 row (sym (ap (λ b. cond b (Some entry.1) (row_of number rows)) is) ∙ found) in
        let it : (number, row) ≡ entry = ap (λ n. (n, row)) same ∙ ap (λ r. (entry.0, r)) (sym own) in
        let none : NoRow number rows = subst (λ n. NoRow n rows) (sym same) (none_after entry.0 rows (sorted_head nat_cmp entry.0 (numbers rows) rising)) in
        let rest : without number (entry ∷ rows) ≡ rows = ap (λ b. cond (not b) (entry ∷ without number rows) (without number rows)) is ∙ without_none number rows (no_row number rows none) in
        ap (Without column (number, row)) (one_more column pairs entry rows ∙ ap (λ e. Onto column (With column e pairs) rows) (sym it))
        ∙ back column number row rows pairs none lacks up ∙ sym (ap (Onto column pairs) rest)
    by others false is =
        let rest : without number (entry ∷ rows) ≡ entry ∷ without number rows = ap (λ b. cond (not b) (entry ∷ without number rows) (without number rows)) is in
        let later : row_of number rows ≡ Some row = sym (ap (λ b. cond b (Some entry.1) (row_of number rows)) is) ∙ found in
        ap (Without column (number, row)) (one_more column pairs entry rows)
        ∙ others later (with_lacks column number entry pairs is lacks) (with_in_order column entry pairs up)
        ∙ sym (ap (Onto column pairs) rest ∙ one_more column pairs entry (without number rows))

none_in_order : IsStrictlySortedBy pair_cmp []
unfolding IsStrictlySortedBy
none_in_order = tt

pub pairs_removed : (column number : ℕ) (row : List Value) (rows : RowsByNumber) → IsStrictlySortedBy nat_cmp (numbers rows) → row_of number rows ≡ Some row
    → pairs_of column (without number rows) ≡ Without column (number, row) (pairs_of column rows)
pairs_removed column number row rows rising found = sym (onto_without column number row rows [] rising found tt none_in_order)

-- another row in its place
onto_replaced : (column number : ℕ) (old new : List Value) (rows : RowsByNumber) (pairs : List (Value × ℕ)) → IsStrictlySortedBy nat_cmp (numbers rows) → row_of number rows ≡ Some old
    → Onto column pairs (with_row number new rows) ≡ With column (number, new) (Onto column pairs (without number rows))
onto_replaced column number old new [] pairs rising found = let no : None ≡ Some old = found in cc
onto_replaced column number old new (entry ∷ rows) pairs rising found =
    by (onto_replaced column number old new rows (With column entry pairs) (sorted_tail nat_cmp entry.0 (numbers rows) rising)) (number == entry.0) refl
  where
    by : (row_of number rows ≡ Some old → Onto column (With column entry pairs) (with_row number new rows) ≡ With column (number, new) (Onto column (With column entry pairs) (without number rows)))
        → (b : Bool) → (number == entry.0) ≡ b → Onto column pairs (with_row number new (entry ∷ rows)) ≡ With column (number, new) (Onto column pairs (without number (entry ∷ rows)))
    by others true is =
        let same : number ≡ entry.0 = same_number number entry.0 is in
        let none : NoRow number rows = subst (λ n. NoRow n rows) (sym same) (none_after entry.0 rows (sorted_head nat_cmp entry.0 (numbers rows) rising)) in
        let absent : row_of number rows ≡ None = no_row number rows none in
        let rest : without number (entry ∷ rows) ≡ rows = ap (λ b. cond (not b) (entry ∷ without number rows) (without number rows)) is ∙ without_none number rows absent in
        let put : with_row number new (entry ∷ rows) ≡ (number, new) ∷ rows =
        ap (λ b. cond b (entry.0, new) entry ∷ with_row number new rows) is ∙ ap (λ es. (entry.0, new) ∷ es) (with_row_none number new rows absent) ∙ ap (λ n. (n, new) ∷ rows) (sym same) in
        ap (Onto column pairs) put ∙ one_more column pairs (number, new) rows ∙ sym (with_over column (number, new) rows pairs) ∙ sym (ap (λ es. With column (number, new) (Onto column pairs es)) rest)
    by others false is =
        let rest : without number (entry ∷ rows) ≡ entry ∷ without number rows = ap (λ b. cond (not b) (entry ∷ without number rows) (without number rows)) is in
        let put : with_row number new (entry ∷ rows) ≡ entry ∷ with_row number new rows = ap (λ b. cond b (entry.0, new) entry ∷ with_row number new rows) is in
        let later : row_of number rows ≡ Some old = sym (ap (λ b. cond b (Some entry.1) (row_of number rows)) is) ∙ found in
        ap (Onto column pairs) put ∙ one_more column pairs entry (with_row number new rows)
        ∙ others later
        ∙ ap (With column (number, new)) (sym (one_more column pairs entry (without number rows))) ∙ sym (ap (λ es. With column (number, new) (Onto column pairs es)) rest)

pub pairs_replaced : (column number : ℕ) (old new : List Value) (rows : RowsByNumber) → IsStrictlySortedBy nat_cmp (numbers rows) → row_of number rows ≡ Some old
    → pairs_of column (with_row number new rows) ≡ With column (number, new) (Without column (number, old) (pairs_of column rows))
pairs_replaced column number old new rows rising found =
    onto_replaced column number old new rows [] rising found ∙ ap (With column (number, new)) (pairs_removed column number old rows rising found)
