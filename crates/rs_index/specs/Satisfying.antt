-- Which rows satisfy a comparison of one of their columns with a value.
use Rattle.std.specs.Prelude.{ℕ, Bool, false, Option, Some, None, slice_get}
use Rattle.std.specs.Option.{option_and_then}
use Rattle.rs_base.specs.declared.value.Value.{Value}
use Rattle.rs_base.specs.Value.{value_cmp}
use Rattle.rs_ast.specs.Allows.{allows}
use Rattle.rs_ast.specs.declared.clause.Op.{Op}
use Rattle.rs_rows.specs.TableRows.{TableRows, row_of}

abbrev pub value_satisfies : Op → Value → Option Value → Bool
value_satisfies op value (Some own) = allows op (value_cmp own value)
value_satisfies op value None = false

-- the table has a row of this number, the row a value in this column, and that satisfies the comparison
abbrev pub satisfies : Op → Value → ℕ → TableRows → ℕ → Bool
satisfies op value column table number =
    value_satisfies op value (option_and_then (λ row. slice_get row column) (row_of number table.rows))
