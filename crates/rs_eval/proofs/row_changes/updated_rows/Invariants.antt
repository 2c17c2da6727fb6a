use Rattle.std.proofs.Common.{◌≡◌, length}
use Rattle.rs_eval.specs.RowChanges.{updated_rows}
use Rattle.rs_eval.proofs.UpdatedRows.{suffix}
use Rattle.rs_eval.proofs.row_changes.updated_rows.Given as goal

abbrev pub invariant-loop-row : goal.invariant-loop-row
invariant-loop-row l = updated_rows l.values l.sets l.clauses l.rows ≡ suffix l.new (updated_rows l.values l.sets l.clauses l.rest)

abbrev pub decreases-loop-row : goal.decreases-loop-row
decreases-loop-row l = length l.rest
