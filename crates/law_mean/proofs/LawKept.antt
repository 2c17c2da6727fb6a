-- Invariants of each table: its size, and that its columns and its indexes have names of their own.
use Rattle.std.proofs.Common.{◌≡◌, ◌≢◌, ℕ, ◌≤◌, Bool, true, false, cond, ◌||◌, ◌==◌, not, List, [], ◌∷◌, ◌++◌, length, nat_le, All, AllPairs, Option, Some, None, IfSome, Result, Ok, Err, refl, sym, subst, ◌∙◌, arith, leb-true}
use Rattle.std.specs.Prelude.{bytes_eq}
use Rattle.std.specs.BTreeMap.{is_at}
use Rattle.std.specs.List.{list_all}
use Rattle.std.proofs.lemmas.Bool.{eqb-false}
use Rattle.std.proofs.lemmas.List.Elements.{All-nil, All-cons, All-head, All-tail, All-append, All-weaker, All-filter}
use Rattle.std.proofs.lemmas.List.Filters.{sum_by-filter_both}
use Rattle.std.proofs.lemmas.List.Kept.{AllPairs-cons, AllPairs-filter}
use Rattle.std.proofs.lemmas.List.Quantifiers.{all_pairs_push}
use Rattle.std.proofs.lemmas.List.Sums.{AllPass-from_list_all}
use Rattle.std.proofs.lemmas.Map.Views.{All-values-insert_entry, All-map-remove_entry, IfSome-lookup_from_All}
use Rattle.std.proofs.lemmas.Option.{IfSome_then}
use Rattle.std.proofs.lemmas.Slice.Eq.{bytes_eq-Decides}
use mathlib.Core.Bool.{true≢false}
use Rattle.rs_base.specs.declared.name.Swn.{Swn}
use Rattle.rs_base.specs.declared.reply.Denial.{Denial}
use Rattle.rs_base.specs.declared.txn.Txn.{Txn}
use Rattle.rs_base.specs.declared.value.Value.{Value}
use Rattle.rs_base.specs.Name.{name_cmp}
use Rattle.rs_base.specs.Sizes.{row_size}
use Rattle.rs_ast.specs.declared.bound.BoundCmp.{BoundCmp}
use Rattle.rs_ast.specs.declared.bound.BoundSet.{BoundSet}
use Rattle.rs_ast.specs.declared.column.ColDef.{ColDef}
use Rattle.rs_ast.specs.declared.entry.IndexOf.{IndexOf}
use Rattle.rs_eval.specs.Clauses.{holds}
use Rattle.rs_mean.specs.declared.change.Change.{Change}
use Rattle.rs_mean.specs.declared.change.Change.TheVariants as changes
use Rattle.rs_mean.specs.declared.table.Table.{Table}
use Rattle.rs_mean.specs.Changes.{changed, with_rows}
use Rattle.rs_mean.specs.Columns.{has_name, names_differ}
use Rattle.rs_mean.specs.Database.{Database, table_named, with_changed}
use Rattle.law_mean.specs.Laws.{EachTable, IsWithin, HasDistinctIndexes}
use Rattle.rs_rows.specs.Sizes.{rows_size}
use Rattle.rs_rows.specs.Limits.{max_row_bytes, max_rows, max_table_bytes, fits_row, fits_rows}
use Rattle.rs_eval.specs.Setting.{row_set}
use Rattle.rs_eval.specs.RowChanges.{has_room, updated_row, with_first, and_others, updated_rows, set_rows_fit, may_become, other_rows}
use Rattle.rs_mean.specs.RowStatements.{rows_of}
use Rattle.rs_mean.specs.TableStatements.{indexes_of, has_index, is_indexed, without_index, is_other_index, new_table}
use Rattle.law_mean.proofs.LawTests.{not_false, neither, both}
use Rattle.law_mean.proofs.LawRows.{others_and_matching}

-- ---- each table of the database

-- the table of this name, changed, is so, if there is one
abbrev pub KeepsIn : (Table → Type 0) → Option Table → (Table → Table) → Type 0
KeepsIn P found change = IfSome found (λ table. P (change table))

-- the table that the change puts in its place satisfies it
abbrev pub Keeps : (Table → Type 0) → Database → Change → Type 0
Keeps P db changes.Nothing = Unit {0}
Keeps P db (changes.PutTable name table) = P table
Keeps P db (changes.DropTable name) = Unit {0}
Keeps P db (changes.SetIndexes name indexes) = KeepsIn P (table_named name db) (λ table. record table { indexes = indexes })
Keeps P db (changes.AppendRows name rows) = KeepsIn P (table_named name db) (with_rows rows)
Keeps P db (changes.SetRows name rows) = KeepsIn P (table_named name db) (λ table. record table { rows = rows })
Keeps P db (changes.PutSynonym synonym name) = Unit {0}
Keeps P db (changes.DropSynonym synonym) = Unit {0}

module _ (P : Table → Type 0) (db : Database) (each : EachTable P db) where
  each_changing : (name : Swn) (change : Table → Table) (found : Option Table) → KeepsIn P found change → EachTable P (with_changed name change found db)
  each_changing name change None new = each
  each_changing name change (Some table) new = All-values-insert_entry name_cmp name (change table) P db.tables each new

  -- each table is so after a change that keeps it so
  pub each_changed : (change : Change) → Keeps P db change → EachTable P (changed change db)
  each_changed changes.Nothing new = each
  each_changed (changes.PutTable name table) new = All-values-insert_entry name_cmp name table P db.tables each new
  each_changed (changes.DropTable name) new = All-map-remove_entry (is_at (name_cmp name)) (λ (e : Swn × Table). e.1) P db.tables each
  each_changed (changes.SetIndexes name indexes) new = each_changing name (λ table. record table { indexes = indexes }) (table_named name db) new
  each_changed (changes.AppendRows name rows) new = each_changing name (with_rows rows) (table_named name db) new
  each_changed (changes.SetRows name rows) new = each_changing name (λ table. record table { rows = rows }) (table_named name db) new
  each_changed (changes.PutSynonym synonym name) new = each
  each_changed (changes.DropSynonym synonym) new = each

  -- the table of a name is as each table is
  pub each_named : (name : Swn) → IfSome (table_named name db) P
  each_named name = IfSome-lookup_from_All P (is_at (name_cmp name)) db.tables each

-- ---- limits

pub empty_within : (txn : Txn) (name : Swn) (columns : List ColDef) → IsWithin (new_table txn name columns)
empty_within txn name columns = record { rows = omega arith; bytes = omega arith; row_bytes = All-nil (λ row. row_size row ≤ max_row_bytes) }

pub indexed_within : (found : Option Table) (indexes : List IndexOf) → IfSome found IsWithin → KeepsIn IsWithin found (λ table. record table { indexes = indexes })
indexed_within found indexes within = IfSome_then found within (λ table each. record { rows = each.rows; bytes = each.bytes; row_bytes = each.row_bytes })

rows_fit : (rows : List (List Value)) → list_all fits_row rows ≡ true → All (λ row. row_size row ≤ max_row_bytes) rows
rows_fit rows fit =
    All-weaker (λ row. fits_row row ≡ true) (λ row. row_size row ≤ max_row_bytes) (λ row e. leb-true (row_size row) max_row_bytes e) rows (AllPass-from_list_all fits_row rows fit)

-- a table stays within its limits if it has room for the rows
pub longer_within : (found : Option Table) (rows : List (List Value)) → IfSome found IsWithin → has_room (rows_of found) rows ≡ true → KeepsIn IsWithin found (with_rows rows)
longer_within None rows within room = tt
longer_within (Some table) rows within room =
    let apart = both (list_all fits_row rows) (fits_rows (table.rows ++ rows)) room in
    let limits = both (nat_le (length (table.rows ++ rows)) max_rows) (nat_le (rows_size (table.rows ++ rows)) max_table_bytes) apart.1 in
    record {
      rows = leb-true (length (table.rows ++ rows)) max_rows limits.0;
      bytes = leb-true (rows_size (table.rows ++ rows)) max_table_bytes limits.1;
      row_bytes = All-append (λ row. row_size row ≤ max_row_bytes) table.rows rows within.row_bytes (rows_fit rows apart.0);
    }

abbrev Fits : List Value → Type 0
Fits row = row_size row ≤ max_row_bytes

module _ (sets : List BoundSet) (clauses : List (List BoundCmp)) where
  -- a row that is set fits, and another stays
  one_fits : (row item : List Value) → Fits row → updated_row [] sets clauses row ≡ Ok item → (not (holds clauses row) || fits_row item) ≡ true → Fits item
  one_fits row item fits made test =
      let Claim : Bool → Type 0 = λ b. cond {A = Result (List Value) Denial} b (row_set sets [] row) (Ok row) ≡ Ok item → (not b || fits_row item) ≡ true → Fits item in
      let at : (b : Bool) → Claim b = λ b. elim b as Claim [
        | true ↦ λ m t. leb-true (row_size item) max_row_bytes t
        | false ↦ λ m t. let is : row ≡ item = cc in subst Fits is fits
      ] in
      at (holds clauses row) made test

  first_fits : (row item : List Value) (rows : List (List Value)) (others : Result (List (List Value)) Denial) (new : List (List Value)) → Fits row
      → updated_row [] sets clauses row ≡ Ok item → ((more : List (List Value)) → others ≡ Ok more → set_rows_fit clauses rows more ≡ true → All Fits more)
      → with_first item others ≡ Ok new → set_rows_fit clauses (row ∷ rows) new ≡ true → All Fits new
  first_fits row item rows (Ok more) new fits made rest e test =
      let is : item ∷ more ≡ new = cc in
      let tests : set_rows_fit clauses (row ∷ rows) (item ∷ more) ≡ true = subst (λ (list : List (List Value)). set_rows_fit clauses (row ∷ rows) list ≡ true) (sym is) test in
      let apart = both (not (holds clauses row) || fits_row item) (set_rows_fit clauses rows more) tests in
      subst (All Fits) is (All-cons Fits item more (one_fits row item fits made apart.0) (rest more refl apart.1))
  first_fits row item rows (Err cause) new fits made rest e test = absurd cc

  both_fit : (row : List Value) (rows : List (List Value)) (first : Result (List Value) Denial) (new : List (List Value)) → updated_row [] sets clauses row ≡ first → Fits row
      → ((more : List (List Value)) → updated_rows [] sets clauses rows ≡ Ok more → set_rows_fit clauses rows more ≡ true → All Fits more)
      → and_others first (updated_rows [] sets clauses rows) ≡ Ok new → set_rows_fit clauses (row ∷ rows) new ≡ true → All Fits new
  both_fit row rows (Ok item) new made fits rest e test = first_fits row item rows (updated_rows [] sets clauses rows) new fits made rest e test
  both_fit row rows (Err cause) new made fits rest e test = absurd cc

  -- the rows after an UPDATE fit, if those before do and each that was set does
  updated_fit : (rows new : List (List Value)) → All Fits rows → updated_rows [] sets clauses rows ≡ Ok new → set_rows_fit clauses rows new ≡ true → All Fits new
  updated_fit [] new all e test = let is : [] ≡ new = cc in subst (All Fits) is (All-nil Fits)
  updated_fit (row ∷ rows) new all e test =
      both_fit row rows (updated_row [] sets clauses row) new refl (All-head Fits row rows all) (λ more made fit. updated_fit rows more (All-tail Fits row rows all) made fit) e test

  -- a table stays within its limits if it may have the new rows
  pub set_within : (found : Option Table) (new : List (List Value)) → IfSome found IsWithin → updated_rows [] sets clauses (rows_of found) ≡ Ok new
      → may_become clauses (rows_of found) new ≡ true → KeepsIn IsWithin found (λ table. record table { rows = new })
  set_within None new within made may = tt
  set_within (Some table) new within made may =
      let apart = both (set_rows_fit clauses table.rows new) (fits_rows new) may in
      let limits = both (nat_le (length new) max_rows) (nat_le (rows_size new) max_table_bytes) apart.1 in
      record {
        rows = leb-true (length new) max_rows limits.0;
        bytes = leb-true (rows_size new) max_table_bytes limits.1;
        row_bytes = updated_fit table.rows new within.row_bytes made apart.0;
      }

others_size : (clauses : List (List BoundCmp)) (rows : List (List Value)) → rows_size (other_rows clauses rows) ≤ rows_size rows
others_size clauses rows = omega (arith, sum_by-filter_both (holds clauses) (λ row. not (holds clauses row)) (λ row. refl) row_size rows)

-- a table stays within its limits without some of its rows
pub others_within : (found : Option Table) (clauses : List (List BoundCmp)) → IfSome found IsWithin → KeepsIn IsWithin found (λ table. record table { rows = other_rows clauses (rows_of found) })
others_within None clauses within = tt
others_within (Some table) clauses within = record {
  rows = omega (arith, others_and_matching clauses table.rows, within.rows);
  bytes = omega (arith, others_size clauses table.rows, within.bytes);
  row_bytes = All-filter (λ row. not (holds clauses row)) (λ row. row_size row ≤ max_row_bytes) table.rows within.row_bytes;
}

-- ---- names

pub apart_from : (name other : List ℕ) → bytes_eq other name ≡ false → other ≢ name
apart_from name other e same = true≢false (sym ((bytes_eq-Decides other name).1 same) ∙ e)

-- ---- columns

unnamed : (columns : List ColDef) (name : List ℕ) → has_name columns name ≡ false → All (λ (column : ColDef). name ≢ column.name) columns
unnamed [] name e = All-nil (λ (column : ColDef). name ≢ column.name)
unnamed (column ∷ columns) name e =
    let apart = neither (bytes_eq column.name name) (has_name columns name) e in
    All-cons (λ (column : ColDef). name ≢ column.name) column columns (λ same. apart_from name column.name apart.0 (sym same)) (unnamed columns name apart.1)

-- no two columns have one name if the test says so
pub columns_distinct : (columns : List ColDef) → names_differ columns ≡ true → AllPairs (λ (one other : ColDef). one.name ≢ other.name) columns
columns_distinct [] e = λ i j d less low. absurd (omega arith)
columns_distinct (column ∷ columns) e =
    let apart = both (not (has_name columns column.name)) (names_differ columns) e in
    AllPairs-cons (λ (one other : ColDef). one.name ≢ other.name) column columns
    (unnamed columns column.name (not_false (has_name columns column.name) apart.0)) (columns_distinct columns apart.1)

-- ---- indexes

abbrev Differ : IndexOf → IndexOf → Type 0
Differ one other = (one.name ≢ other.name) × (one.column ≢ other.column)

module _ (new : IndexOf) where
  -- no index has the name of the new one, or is on its column
  pub all_differ : (indexes : List IndexOf) → has_index indexes new.name ≡ false → is_indexed indexes new.column ≡ false → All (λ one. Differ one new) indexes
  all_differ [] name column = All-nil (λ one. Differ one new)
  all_differ (index ∷ indexes) name column =
      let names = neither (bytes_eq index.name new.name) (has_index indexes new.name) name in
      let columns = neither (index.column == new.column) (is_indexed indexes new.column) column in
      All-cons (λ one. Differ one new) index indexes (apart_from new.name index.name names.0, eqb-false index.column new.column columns.0) (all_differ indexes names.1 columns.1)

  -- the indexes differ if the appended one has a name and a column of its own
  pub added_distinct : (found : Option Table) → IfSome found HasDistinctIndexes → has_index (indexes_of found) new.name ≡ false → is_indexed (indexes_of found) new.column ≡ false
      → KeepsIn HasDistinctIndexes found (λ table. record table { indexes = indexes_of found ++ new ∷ [] })
  added_distinct None distinct name column = tt
  added_distinct (Some table) distinct name column = all_pairs_push Differ table.indexes new distinct (all_differ table.indexes name column)

pub left_distinct : (found : Option Table) (name : List ℕ) → IfSome found HasDistinctIndexes → KeepsIn HasDistinctIndexes found (λ table. record table { indexes = without_index name (indexes_of found) })
left_distinct None name distinct = tt
left_distinct (Some table) name distinct = AllPairs-filter Differ (is_other_index name) table.indexes distinct
