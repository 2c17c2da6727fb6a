-- The rows of a table after a change of rows.
use Rattle.std.specs.Prelude.{ℕ, Bool, not, ◌&&◌, ◌||◌, List, [], ◌∷◌, ◌++◌, map, filter, zip, length, Result, Ok, Err, if◌then◌else◌}
use Rattle.std.specs.List.{list_all}
use Rattle.rs_base.specs.declared.reply.Denial.{Denial}
use Rattle.rs_base.specs.declared.reply.Denial.TheVariants as denials
use Rattle.rs_base.specs.declared.value.Value.{Value}
use Rattle.rs_ast.specs.declared.bound.BoundCmp.{BoundCmp}
use Rattle.rs_ast.specs.declared.bound.BoundSet.{BoundSet}
use Rattle.rs_ast.specs.declared.bound.BoundTerm.{BoundTerm}
use Rattle.rs_eval.specs.Clauses.{holds}
use Rattle.rs_eval.specs.Setting.{term_value, row_set}
use Rattle.rs_rows.specs.Limits.{fits_row, fits_rows}

-- ---- INSERT

-- the inserted rows, with these values for their parameters
abbrev pub given_rows : List Value → List (List BoundTerm) → List (List Value)
given_rows values rows = map (λ row. map (term_value values []) row) rows

-- each of the rows may be stored, and there is room for them after those of the table
abbrev pub has_room : List (List Value) → List (List Value) → Bool
has_room rows more = list_all fits_row more && fits_rows (rows ++ more)

-- the rows appended to those of the table, or TableFull
abbrev pub inserted : List Value → List (List BoundTerm) → List (List Value) → Result (List (List Value)) Denial
inserted values given rows = if has_room rows (given_rows values given) then Ok (given_rows values given)
    else Err denials.TableFull

-- ---- UPDATE

-- a matching row is updated, with these values for the parameters of the assignments, and another stays
abbrev pub updated_row : List Value → List BoundSet → List (List BoundCmp) → List Value → Result (List Value) Denial
updated_row values sets clauses row = if holds clauses row then row_set sets values row else Ok row

abbrev pub with_first : {A : Type 0} → A → Result (List A) Denial → Result (List A) Denial
with_first item (Ok items) = Ok (item ∷ items)
with_first item (Err cause) = Err cause

abbrev pub and_others : {A : Type 0} → Result A Denial → Result (List A) Denial → Result (List A) Denial
and_others (Ok item) others = with_first item others
and_others (Err cause) others = Err cause

-- each row updated, or the first denial
abbrev pub updated_rows : List Value → List BoundSet → List (List BoundCmp) → List (List Value) → Result (List (List Value)) Denial
updated_rows values sets clauses [] = Ok []
updated_rows values sets clauses (row ∷ rows) =
    and_others (updated_row values sets clauses row) (updated_rows values sets clauses rows)

-- Each row that was set may be stored. Rows that don't match aren't judged.
abbrev pub set_rows_fit : List (List BoundCmp) → List (List Value) → List (List Value) → Bool
set_rows_fit clauses rows new = list_all (λ both. not (holds clauses both.0) || fits_row both.1) (zip rows new)

-- a table with these rows may have the new ones in their place
abbrev pub may_become : List (List BoundCmp) → List (List Value) → List (List Value) → Bool
may_become clauses rows new = set_rows_fit clauses rows new && fits_rows new

abbrev pub within_limits : List (List BoundCmp) → List (List Value) → Result (List (List Value)) Denial → Result (List (List Value)) Denial
within_limits clauses rows (Ok new) = if may_become clauses rows new then Ok new else Err denials.TableFull
within_limits clauses rows (Err cause) = Err cause

-- The rows after an UPDATE; or Overflow, if an expression over a matching row isn't an integer of 64 bits; or else
-- TableFull, if a row that was set is too large, or the table would be beyond its limits.
abbrev pub updated : List Value → List BoundSet → List (List BoundCmp) → List (List Value) → Result (List (List Value)) Denial
updated values sets clauses rows = within_limits clauses rows (updated_rows values sets clauses rows)

-- ---- DELETE

-- the other rows: those that don't match
abbrev pub other_rows : List (List BoundCmp) → List (List Value) → List (List Value)
other_rows clauses rows = filter (λ row. not (holds clauses row)) rows

-- the number of matching rows
abbrev pub matching_count : List (List BoundCmp) → List (List Value) → ℕ
matching_count clauses rows = length (filter (holds clauses) rows)
