use Rattle.std.proofs.Common.{◌≡◌, take}
use Rattle.rs_eval.specs.RowChanges.{given_rows}
use Rattle.rs_eval.proofs.row_changes.given_rows.Given as goal

abbrev pub invariant-loop-row : goal.invariant-loop-row
invariant-loop-row l = l.given ≡ given_rows l.values (take l.row-index l.rows)
