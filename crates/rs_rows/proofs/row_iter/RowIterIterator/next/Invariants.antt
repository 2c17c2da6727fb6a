use Rattle.std.proofs.Common.{◌≡◌, length}
use Rattle.rs_rows.specs.Slots.{rows_in}
use Rattle.rs_rows.proofs.row_iter.RowIterIterator.next.Given as goal

abbrev pub invariant-loop-slot : goal.invariant-loop-slot
invariant-loop-slot l = rows_in l.self-inside.slots.now ≡ l.fn.self

abbrev pub decreases-loop-slot : goal.decreases-loop-slot
decreases-loop-slot l = length l.self-inside.slots.now
