use Rattle.std.proofs.Common.{◌≡◌, take}
use Rattle.std.specs.Option.{option_copied}
use Rattle.rs_answer.specs.Items.{least_of, values_at}
use Rattle.rs_answer.proofs.items.least_at.Given as goal

abbrev pub invariant-loop-row : goal.invariant-loop-row
invariant-loop-row l = option_copied l.least ≡ least_of (values_at l.column_index (take l.row-index l.members))
