use Rattle.std.proofs.Common.{◌≡◌, ◌≤◌, ◌+◌, filter, take}
use Rattle.rs_eval.specs.Clauses.{holds}
use Rattle.rs_exec.specs.Paths.{rows_at}
use Rattle.rs_exec.proofs.matching.read_matching.Given as goal

abbrev pub invariant-loop-number : goal.invariant-loop-number
invariant-loop-number g l = record {
  found : l.found.items ≡ filter (λ entry. holds l.clauses entry.1) (rows_at (take l.number-index l.numbers) (g.R.ReadRows.rows l.fn.rows));
  rows : g.R.ReadRows.rows l.rows ≡ g.R.ReadRows.rows l.fn.rows;
  reads : g.R.ReadRows.reads l.rows ≤ g.R.ReadRows.reads l.fn.rows + l.number-index;
}
