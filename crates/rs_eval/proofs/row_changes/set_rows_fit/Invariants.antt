use Rattle.std.proofs.Common.{◌≡◌, length}
use Rattle.rs_eval.specs.RowChanges.{set_rows_fit}
use Rattle.rs_eval.proofs.row_changes.set_rows_fit.Given as goal

abbrev pub invariant-loop-row : goal.invariant-loop-row
invariant-loop-row l = set_rows_fit l.clauses l.rows l.new ≡ set_rows_fit l.clauses l.rest l.set

abbrev pub decreases-loop-row : goal.decreases-loop-row
decreases-loop-row l = length l.rest
