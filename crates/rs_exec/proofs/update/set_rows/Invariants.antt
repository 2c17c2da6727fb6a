use Rattle.std.proofs.Common.{◌≡◌, drop}
use Rattle.rs_exec.specs.Running.{set_rows}
use Rattle.rs_exec.proofs.Changing.{suffix}
use Rattle.rs_exec.proofs.update.set_rows.Given as goal

abbrev pub invariant-loop-old : goal.invariant-loop-old
invariant-loop-old l = suffix l.new (set_rows l.sets l.values (drop l.old-index l.rows)) ≡ set_rows l.sets l.values l.rows
