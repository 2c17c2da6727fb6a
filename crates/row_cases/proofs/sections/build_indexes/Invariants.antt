use Rattle.std.proofs.Common.{All}
use Rattle.rs_exec.specs.Paths as spec
use Rattle.row_cases.proofs.sections.build_indexes.Given as goal

abbrev pub invariant-loop-column : goal.invariant-loop-column
invariant-loop-column l = All (spec.IsIndexOf l.fn.table.rows) l.indexes.items
