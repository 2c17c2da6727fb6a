use Rattle.std.proofs.Common.{◌≡◌, ◌-◌, ◌^◌, map, min, take}
use Rattle.rs_rows.specs.Sizes.{rows_size}
use Rattle.rs_exec.proofs.room.size_of_rows.Given as goal

abbrev pub invariant-loop-row : goal.invariant-loop-row
invariant-loop-row g l = l.size ≡ min (rows_size (map g.T.AsValues.values (take l.row-index l.rows))) (2 ^ 64 - 1)
