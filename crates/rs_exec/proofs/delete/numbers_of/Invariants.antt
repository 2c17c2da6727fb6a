use Rattle.std.proofs.Common.{◌≡◌, take}
use Rattle.rs_rows.specs.TableRows.{numbers}
use Rattle.rs_exec.proofs.delete.numbers_of.Given as goal

abbrev pub invariant-loop-row : goal.invariant-loop-row
invariant-loop-row l = l.numbers ≡ numbers (take l.row-index l.rows)
