use Rattle.std.proofs.Common.{◌≡◌, ◌+◌, length}
use Rattle.rs_eval.specs.RowChanges.{matching_count}
use Rattle.rs_eval.proofs.row_changes.matching_count.Given as goal

abbrev pub invariant-loop-row : goal.invariant-loop-row
invariant-loop-row l = matching_count l.clauses l.rows ≡ l.count + matching_count l.clauses l.rest

abbrev pub decreases-loop-row : goal.decreases-loop-row
decreases-loop-row l = length l.rest
