-- The answer of a query, from its joined rows.
use Rattle.std.specs.Prelude.{Bool, List, filter_map, Result, Ok, Err, if◌then◌else◌}
use Rattle.std.specs.List.{list_any}
use Rattle.std.specs.Ordering.{is_eq}
use Rattle.rs_base.specs.declared.reply.Denial.{Denial}
use Rattle.rs_base.specs.declared.reply.Denial.TheVariants as denials
use Rattle.rs_base.specs.declared.value.Value.{Value}
use Rattle.rs_base.specs.Value.{row_cmp}
use Rattle.rs_ast.specs.declared.shape.Shape.{Shape}
use Rattle.rs_answer.specs.Groups.{groups_of, once}
use Rattle.rs_answer.specs.Items.{row_of, item_overflows}
use Rattle.rs_answer.specs.Sorting.{sorted_by, answer_cmp}

abbrev pub same_row : List Value → List Value → Bool
same_row one other = is_eq (row_cmp one other)

-- a row for each group
abbrev pub shown : Shape → List (List Value) → List (List Value)
shown shape joined = filter_map (row_of shape.items) (groups_of shape joined)

-- the rows of a query: distinct ones with DISTINCT
abbrev pub query_rows : Shape → List (List Value) → List (List Value)
query_rows shape joined = if shape.distinct then once same_row (shown shape joined) else shown shape joined

-- a sum of a group isn't an integer of 64 bits
abbrev pub overflows : Shape → List (List Value) → Bool
overflows shape joined = list_any (λ members. list_any (item_overflows members) shape.items) (groups_of shape joined)

-- the rows of a query, sorted by its keys and then by all columns; or Overflow
unfoldable pub answer_of : Shape → List (List Value) → Result (List (List Value)) Denial
answer_of shape joined = if overflows shape joined then Err denials.Overflow
    else Ok (sorted_by (answer_cmp shape.keys) (query_rows shape joined))
