use Rattle.std.proofs.Common.{◌≡◌, take}
use Rattle.rs_rows.proofs.stored_rows.StoredRows.copied.Given as goal

abbrev pub invariant-loop-row : goal.invariant-loop-row
invariant-loop-row l = l.stored ≡ take l.row-index l.rows
