-- What a section gives over the rows of a table.
use Rattle.std.specs.Prelude.{ℕ, ◌==◌, not, List, [], ◌∷◌, map, filter, length, Option, Some, None, Result, Ok, Err, slice_get, if◌then◌else◌}
use Rattle.std.specs.List.{filter_map}
use Rattle.rs_base.specs.declared.name.Swn.{Swn}
use Rattle.rs_base.specs.declared.reply.Denial.{Denial}
use Rattle.rs_base.specs.declared.reply.Denial.TheVariants as denials
use Rattle.rs_base.specs.declared.value.Value.{Value}
use Rattle.rs_base.specs.Value.{RowList}
use Rattle.rs_ast.specs.declared.bound.BoundCmp.{BoundCmp}
use Rattle.rs_ast.specs.declared.bound.BoundSet.{BoundSet}
use Rattle.rs_ast.specs.declared.bound.BoundSide.TheVariants as sides
use Rattle.rs_ast.specs.declared.clause.Op.TheVariants as ops
use Rattle.rs_plan.specs.declared.change.Change.{Change}
use Rattle.rs_plan.specs.declared.change.Change.TheVariants as changes
use Rattle.rs_plan.specs.declared.section.Section.{Section}
use Rattle.rs_plan.specs.declared.section.SectionKind.{SectionKind}
use Rattle.rs_plan.specs.declared.section.SectionKind.TheVariants as sections
use Rattle.rs_rows.specs.TableRows.{RowsByNumber, numbers}
use Rattle.rs_eval.specs.Clauses.{holds}
use Rattle.rs_eval.specs.Filling.{filled}
use Rattle.rs_eval.specs.RowChanges.{has_room, inserted, and_others}
use Rattle.rs_eval.specs.Setting.{row_set}
use Rattle.rs_exec.specs.declared.ran.Ran.{Ran}
use Rattle.rs_exec.specs.declared.ran.Ran.TheVariants as results
use Rattle.rs_exec.specs.Pages.{page}

-- ---- which rows

-- the clause that this column has this value
abbrev pub equality : ℕ → Value → List BoundCmp
equality column value = record { left = column; op = ops.Eq; right = sides.Lit value } ∷ []

-- the predicate of a fetch: its column has the fetched value, and its clauses; without a value no row is fetched
abbrev pub fetch_predicate : List (List BoundCmp) → ℕ → Option Value → Option (List (List BoundCmp))
fetch_predicate clauses by None = None
fetch_predicate clauses by (Some value) = Some (equality by value ∷ clauses)

-- the predicate of the rows that a section is about, with values for its parameters; none if it is about no stored row
abbrev pub predicate_of : SectionKind → List Value → Option Value → Option (List (List BoundCmp))
predicate_of (sections.Scan clauses columns) values fetch = Some (filled values clauses)
predicate_of (sections.Fetch clauses columns by) values fetch = fetch_predicate (filled values clauses) by fetch
predicate_of (sections.Insert rows) values fetch = None
predicate_of (sections.Delete clauses) values fetch = Some (filled values clauses)
predicate_of (sections.Update sets clauses) values fetch = Some (filled values clauses)

-- the rows that satisfy the predicate, in order of insertion
abbrev pub matching : Option (List (List BoundCmp)) → RowsByNumber → RowsByNumber
matching None rows = []
matching (Some clauses) rows = filter (λ entry. holds clauses entry.1) rows

-- the other rows
abbrev pub others : Option (List (List BoundCmp)) → RowsByNumber → RowsByNumber
others None rows = rows
others (Some clauses) rows = filter (λ entry. not (holds clauses entry.1)) rows

-- the rows without their numbers
abbrev pub plain : RowsByNumber → RowList
plain rows = map (λ entry. entry.1) rows

-- ---- a scan and a fetch

-- the row's values in these columns; a column that the row doesn't have is left out
abbrev pub projected : List ℕ → List Value → List Value
projected columns row = filter_map (λ column. slice_get row column) columns

-- the rows in these columns alone
abbrev pub shipped : List ℕ → RowsByNumber → RowList
shipped columns rows = map (λ entry. projected columns entry.1) rows

-- the page after the first `from` of the matching rows, in these columns alone
abbrev pub queried : List ℕ → ℕ → RowsByNumber → Ran
queried columns from rows = results.Rows (page from (shipped columns rows)).0 (page from (shipped columns rows)).1

-- ---- changes

-- no change if this number of rows to change is 0
abbrev pub change_of : ℕ → Change → List Change
change_of count change = if count == 0 then [] else change ∷ []

-- the rows are appended, unless a row or the table would be too large
abbrev pub appended : Swn → Result RowList Denial → Ran
appended name (Ok rows) = results.Changes (changes.PutRows name rows ∷ []) (length rows)
appended name (Err cause) = results.Denied cause

-- the matching rows are removed
abbrev pub deleted : Swn → RowsByNumber → Ran
deleted name rows = results.Changes (change_of (length rows) (changes.Remove name (numbers rows))) (length rows)

-- the row after the assignments, with its number, or Overflow
abbrev pub set_entry : ℕ → Result (List Value) Denial → Result (ℕ × List Value) Denial
set_entry number (Ok row) = Ok (number, row)
set_entry number (Err cause) = Err cause

-- each of the rows after the assignments, all by the old row; or Overflow, if an expression over one of them isn't an
-- integer of 64 bits
abbrev pub set_rows : List BoundSet → List Value → RowsByNumber → Result RowsByNumber Denial
set_rows sets values [] = Ok []
set_rows sets values ((number, row) ∷ rows) =
    and_others (set_entry number (row_set sets values row)) (set_rows sets values rows)

-- the new rows replace the old ones with their numbers; TableFull, if one of them is too large, or the table with all of
-- them and its other rows
abbrev pub updated : Swn → RowsByNumber → Result RowsByNumber Denial → Ran
updated name other_rows (Ok rows) =
    if has_room (plain other_rows) (plain rows)
    then results.Changes (change_of (length rows) (changes.Replace name rows)) (length rows)
    else results.Denied denials.TableFull
updated name other_rows (Err cause) = results.Denied cause

-- ---- a section

-- what a section gives over the rows of its table, by the rows that match and the others
abbrev pub ran_over : Swn → SectionKind → List Value → ℕ → RowsByNumber → RowsByNumber → RowsByNumber → Ran
ran_over name (sections.Scan clauses columns) values from rows match other_rows = queried columns from match
ran_over name (sections.Fetch clauses columns by) values from rows match other_rows = queried columns from match
ran_over name (sections.Insert given) values from rows match other_rows = appended name (inserted values given (plain rows))
ran_over name (sections.Delete clauses) values from rows match other_rows = deleted name match
ran_over name (sections.Update sets clauses) values from rows match other_rows =
    updated name other_rows (set_rows sets values match)

-- What a section gives over the rows of its table, with values for its parameters and for a fetch: a page of the matching
-- rows after the first `from`; or changes of the table, and the number of rows that they insert, delete or update; or the
-- cause for which it is denied.
unfoldable pub ran : Section → List Value → Option Value → ℕ → RowsByNumber → Ran
ran section values fetch from rows =
    let predicate = predicate_of section.kind values fetch in
    ran_over section.name section.kind values from rows (matching predicate rows) (others predicate rows)
