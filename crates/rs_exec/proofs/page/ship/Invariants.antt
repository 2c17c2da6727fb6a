use Rattle.std.proofs.Common.{◌≡◌, take}
use Rattle.rs_exec.specs.Running.{shipped}
use Rattle.rs_exec.proofs.page.ship.Given as goal

abbrev pub invariant-loop-row : goal.invariant-loop-row
invariant-loop-row l = l.copies ≡ shipped l.columns (take l.row-index l.rows)
