use Rattle.std.proofs.Common.{rules}
use Rattle.std.proofs.lemmas.Fn.{always_returns_same}
use Rattle.std.proofs.lemmas.List.Sorted.{ranks_by}
use Rattle.rs_answer.specs.Groups.{group_values}
use Rattle.rs_answer.proofs.Orders.{group_total}
use Rattle.rs_answer.proofs.groups.rows_by_group.Goals as goal

pub returns-clause-sorted : goal.returns-clause-sorted
returns-clause-sorted c =
    c.in_ok-sort_by.ensures.sorted _ (ranks_by group_total (group_values c.args.column_indexes.now)) (always_returns_same _ _ _ (λ a r f' k. (search rules, search rules)))

pub returns-clause-stable : goal.returns-clause-stable
returns-clause-stable c =
    rw (← c.in_ok-rows.ensures)
    (c.in_ok-sort_by.ensures.stable _ (ranks_by group_total (group_values c.args.column_indexes.now)) (always_returns_same _ _ _ (λ a r f' k. (search rules, search rules))))
