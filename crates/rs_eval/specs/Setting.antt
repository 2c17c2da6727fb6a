-- The row after the assignments of an UPDATE. Each expression uses the old row.
use Rattle.std.specs.Prelude.{Bool, true, List, Option, Some, None, option_map, Result, Ok, Err, pos, fold, slice_get, slice_set, unwrap_or, if◌then◌else◌}
use Rattle.std.specs.List.{list_all}
use Rattle.rs_base.specs.declared.reply.Denial.{Denial}
use Rattle.rs_base.specs.declared.reply.Denial.TheVariants as denials
use Rattle.rs_base.specs.declared.value.Value.{Value}
use Rattle.rs_base.specs.declared.value.Value.TheVariants as values
use Rattle.rs_ast.specs.declared.bound.BoundSet.{BoundSet}
use Rattle.rs_ast.specs.declared.bound.BoundTerm.{BoundTerm}
use Rattle.rs_ast.specs.declared.bound.BoundTerm.TheVariants as terms
use Rattle.rs_ast.specs.declared.change.Arith.{Arith}
use Rattle.rs_base.specs.Integers.{is_i64, integer_of}
use Rattle.rs_eval.specs.Integers.{computed}

-- the value of a term; 0 for a column index or a parameter that has none
abbrev pub term_value : List Value → List Value → BoundTerm → Value
term_value given row (terms.Place column_index) = unwrap_or (slice_get row column_index) (values.Int (pos 0))
term_value given row (terms.Lit value) = value
term_value given row (terms.Param param) = unwrap_or (slice_get given param) (values.Int (pos 0))

-- the value of the first term, or what is computed of both
abbrev pub combined : Value → Option (Arith × Value) → Value
combined first None = first
combined first (Some (op, second)) = values.Int (computed op (integer_of first) (integer_of second))

-- the new value of the column
abbrev pub set_value : List Value → List Value → BoundSet → Value
set_value given row set =
    combined (term_value given row set.first) (option_map (λ more. (more.0, term_value given row more.1)) set.more)

-- a text, or an integer of 64 bits
abbrev pub is_stored : Value → Bool
is_stored (values.Int z) = is_i64 z
is_stored (values.Text text) = true

-- the row after all assignments, each by the old row
abbrev pub with_sets : List BoundSet → List Value → List Value → List Value
with_sets sets given row = fold (λ new set. slice_set new set.column (set_value given row set)) row sets

-- The row after the assignments, or Overflow if one of their expressions isn't an integer of 64 bits.
unfoldable pub row_set : List BoundSet → List Value → List Value → Result (List Value) Denial
row_set sets given row =
    if list_all (λ set. is_stored (set_value given row set)) sets then Ok (with_sets sets given row) else Err denials.Overflow
