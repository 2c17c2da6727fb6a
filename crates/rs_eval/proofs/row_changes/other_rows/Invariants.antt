use Rattle.std.proofs.Common.{◌≡◌, ◌++◌, length}
use Rattle.rs_eval.specs.RowChanges.{other_rows}
use Rattle.rs_eval.proofs.row_changes.other_rows.Given as goal

abbrev pub invariant-loop-row : goal.invariant-loop-row
invariant-loop-row l = other_rows l.clauses l.rows ≡ l.other_rows ++ other_rows l.clauses l.rest

abbrev pub decreases-loop-row : goal.decreases-loop-row
decreases-loop-row l = length l.rest
