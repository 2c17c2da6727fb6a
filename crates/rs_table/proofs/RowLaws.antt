-- Indexes over rows stay over them when a row comes, goes or is replaced.
use Rattle.std.proofs.Common.{◌≡◌, ℕ, suc, List, [], ◌∷◌, ◌++◌, map, Some, refl, sym, ap, ap₂, ◌∙◌, take, drop}
use mathlib.Core.List.{map-append}
use Rattle.std.specs.Prelude.{remove}
use Rattle.std.specs.List.{take-map, drop-map}
use Rattle.std.specs.List.Sorted.{IsStrictlySortedBy}
use Rattle.std.specs.Ordering.{nat_cmp}
use Rattle.rs_base.specs.declared.value.Value.{Value}
use Rattle.rs_rows.specs.TableRows.{TableRows, RowsByNumber, numbers, row_of, without, with_row}
use Rattle.rs_index.specs.Index.{Index}
use Rattle.rs_table.specs.IndexedRows.{IndexedRows, index_over, indexes_over, columns_of, with_entry, without_entry}
use Rattle.rs_table.proofs.IndexLaws.{pairs_inserted, pairs_removed, pairs_replaced}

-- the indexes of these columns are over these rows
abbrev pub AreOver : RowsByNumber → List Index → Type 0
AreOver rows indexes = indexes ≡ indexes_over rows (columns_of indexes)

columns_over : (rows : RowsByNumber) (columns : List ℕ) → columns_of (indexes_over rows columns) ≡ columns
columns_over rows [] = refl
columns_over rows (column ∷ columns) = ap (λ rest. column ∷ rest) (columns_over rows columns)

-- each index follows
each_follows : (f : Index → Index) (rows new : RowsByNumber) → ((column : ℕ) → f (index_over rows column) ≡ index_over new column)
    → (columns : List ℕ) → map f (indexes_over rows columns) ≡ indexes_over new columns
each_follows f rows new each [] = refl
each_follows f rows new each (column ∷ columns) = ap₂ (λ (index : Index) rest. index ∷ rest) (each column) (each_follows f rows new each columns)

pub record Follow (new : RowsByNumber) (indexes after : List Index) : Type 0 where
  pub over : AreOver new after
  pub columns : columns_of after ≡ columns_of indexes

follow : (f : Index → Index) (rows new : RowsByNumber) (indexes : List Index) → ((column : ℕ) → f (index_over rows column) ≡ index_over new column)
    → AreOver rows indexes → Follow new indexes (map f indexes)
follow f rows new indexes each over =
    let after : map f indexes ≡ indexes_over new (columns_of indexes) = ap (map f) over ∙ each_follows f rows new each (columns_of indexes) in
    let columns : columns_of (map f indexes) ≡ columns_of indexes = ap columns_of after ∙ columns_over new (columns_of indexes) in
    record { over = after ∙ ap (indexes_over new) (sym columns); columns = columns }

abbrev with_pairs : (column : ℕ) → List (Value × ℕ) → Index
with_pairs column pairs = record { column = column; pairs = pairs }

pub inserted_follows : (entry : ℕ × List Value) (rows : RowsByNumber) (indexes : List Index) → AreOver rows indexes → Follow (rows ++ entry ∷ []) indexes (map (with_entry entry) indexes)
inserted_follows entry rows indexes over =
    follow (with_entry entry) rows (rows ++ entry ∷ []) indexes (λ column. ap (with_pairs column) (sym (pairs_inserted column entry rows))) over

pub removed_follows : (number : ℕ) (row : List Value) (rows : RowsByNumber) (indexes : List Index) → IsStrictlySortedBy nat_cmp (numbers rows) → row_of number rows ≡ Some row
    → AreOver rows indexes → Follow (without number rows) indexes (map (without_entry (number, row)) indexes)
removed_follows number row rows indexes rising found over =
    follow (without_entry (number, row)) rows (without number rows) indexes (λ column. ap (with_pairs column) (sym (pairs_removed column number row rows rising found))) over

-- one function after another, over a list
both : (f g : Index → Index) (indexes : List Index) → map f (map g indexes) ≡ map (λ index. f (g index)) indexes
both f g [] = refl
both f g (index ∷ indexes) = ap (λ rest. f (g index) ∷ rest) (both f g indexes)

pub replaced_follows : (number : ℕ) (old new : List Value) (rows : RowsByNumber) (indexes : List Index) → IsStrictlySortedBy nat_cmp (numbers rows) → row_of number rows ≡ Some old
    → AreOver rows indexes → Follow (with_row number new rows) indexes (map (with_entry (number, new)) (map (without_entry (number, old)) indexes))
replaced_follows number old new rows indexes rising found over =
    let once = follow (λ index. with_entry (number, new) (without_entry (number, old) index)) rows (with_row number new rows) indexes
    (λ column. ap (with_pairs column) (sym (pairs_replaced column number old new rows rising found))) over in
    let same = both (with_entry (number, new)) (without_entry (number, old)) indexes in
    record { over = same ∙ once.over ∙ sym (ap (λ after. indexes_over (with_row number new rows) (columns_of after)) same); columns = ap columns_of same ∙ once.columns }

-- ---- an index dropped

removed_map : {A B : Type 0} (f : A → B) (items : List A) (at : ℕ) → remove (map f items) at ≡ map f (remove items at)
removed_map f items at =
    ap₂ (λ xs ys. xs ++ ys) (take-map f at items) (drop-map f (suc at) items) ∙ sym (map-append f (take at items) (drop (suc at) items))

pub dropped_follows : (rows : RowsByNumber) (indexes : List Index) (at : ℕ) → AreOver rows indexes
    → AreOver rows (remove indexes at) × (columns_of (remove indexes at) ≡ remove (columns_of indexes) at)
dropped_follows rows indexes at over =
    let columns = removed_map (λ (index : Index). index.column) indexes at in
    (ap (λ items. remove items at) over ∙ removed_map (index_over rows) (columns_of indexes) at ∙ ap (indexes_over rows) columns, sym columns)

-- ---- what contracts see

abbrev pub made : TableRows → List ℕ → IndexedRows
made table columns = record { table = table; columns = columns }
