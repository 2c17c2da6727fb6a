use Rattle.std.proofs.Common.{◌≡◌, ◌-◌, ◌^◌, min, take}
use Rattle.rs_base.specs.Sizes.{row_size}
use Rattle.rs_exec.specs.Running.{projected}
use Rattle.rs_exec.proofs.page.values_size.Given as goal

abbrev pub invariant-loop-column : goal.invariant-loop-column
invariant-loop-column l = l.size ≡ min (row_size (projected (take l.column-index l.columns) l.row)) (2 ^ 64 - 1)
