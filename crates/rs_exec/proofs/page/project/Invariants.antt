use Rattle.std.proofs.Common.{◌≡◌, take}
use Rattle.rs_exec.specs.Running.{projected}
use Rattle.rs_exec.proofs.page.project.Given as goal

abbrev pub invariant-loop-column : goal.invariant-loop-column
invariant-loop-column l = l.values ≡ projected (take l.column-index l.columns) l.row
