use Rattle.std.proofs.Common.{◌≡◌, ◌*◌, take, pos, neg_ℤ, ◌≤ℤ◌}
use Rattle.rs_answer.specs.Items.{sum_of, values_at}
use Rattle.rs_answer.proofs.items.sum_at.Given as goal

abbrev pub invariant-loop-row : goal.invariant-loop-row
invariant-loop-row l =
    (l.sum ≡ sum_of (values_at l.column_index (take l.row-index l.members)))
    × (neg_ℤ (pos (9223372036854775808 * l.row-index)) ≤ℤ l.sum)
    × (l.sum ≤ℤ pos (9223372036854775808 * l.row-index))
