use Rattle.std.proofs.Common.{◌≡◌, drop}
use Rattle.rs_answer.specs.Groups.{group_cmp, group_values}
use Rattle.rs_answer.proofs.groups.compare_groups.Given as goal

abbrev pub invariant-loop-column_index : goal.invariant-loop-column_index
invariant-loop-column_index l =
    let left = drop l.column_index-index l.column_indexes in
    group_cmp (group_values left l.one) (group_values left l.other) ≡ group_cmp (group_values l.column_indexes l.one) (group_values l.column_indexes l.other)
