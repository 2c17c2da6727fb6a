use Rattle.std.proofs.Common.{◌≡◌, ◌+◌, Bool, List, drop}
use Rattle.std.specs.List.{prefix_len}
use Rattle.rs_base.specs.declared.value.Value.{Value}
use Rattle.rs_answer.specs.Groups.{group_values, same_group}
use Rattle.rs_answer.proofs.groups.run_length.Given as goal

abbrev pub invariant-loop-row : goal.invariant-loop-row
invariant-loop-row l =
    let alike : List Value → Bool = λ row. same_group (group_values l.column_indexes l.first) (group_values l.column_indexes row) in
    (l.length ≡ l.row-index) × (l.row-index + prefix_len alike (drop l.row-index l.rows) ≡ prefix_len alike l.rows)
