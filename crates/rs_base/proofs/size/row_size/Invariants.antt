use Rattle.std.proofs.Common.{◌≡◌, ◌-◌, ◌^◌, min, take}
use Rattle.rs_base.specs.Sizes.{row_size}
use Rattle.rs_base.proofs.size.row_size.Given as goal

abbrev pub invariant-loop-value : goal.invariant-loop-value
invariant-loop-value l = l.size ≡ min (row_size (take l.value-index l.row)) (2 ^ 64 - 1)
