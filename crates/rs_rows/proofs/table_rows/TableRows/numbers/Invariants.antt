use Rattle.std.proofs.Common.{◌≡◌, ◌++◌}
use Rattle.rs_rows.specs.TableRows.{numbers}
use Rattle.rs_rows.proofs.table_rows.TableRows.numbers.Given as goal

abbrev pub invariant-loop-number : goal.invariant-loop-number
invariant-loop-number l = l.numbers ++ numbers l.number-iterator ≡ numbers l.self.rows
