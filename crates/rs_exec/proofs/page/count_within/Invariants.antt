use Rattle.std.proofs.Common.{◌≡◌, ◌≤◌, ◌+◌, drop, length}
use Rattle.rs_exec.specs.Pages.{rows_within}
use Rattle.rs_exec.specs.Running.{shipped}
use Rattle.rs_exec.proofs.page.count_within.Given as goal

abbrev pub invariant-loop-row : goal.invariant-loop-row
invariant-loop-row l = record {
  counted : l.row-index + length (rows_within l.room (shipped l.columns (drop l.row-index l.rows))) ≡ length (rows_within l.fn.room (shipped l.columns l.rows));
  same : l.count ≡ l.row-index;
  low : l.room ≤ 30000;
}
