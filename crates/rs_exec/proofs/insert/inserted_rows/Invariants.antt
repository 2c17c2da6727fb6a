use Rattle.std.proofs.Common.{◌≡◌, take}
use Rattle.rs_eval.specs.RowChanges.{given_rows}
use Rattle.rs_exec.proofs.insert.inserted_rows.Given as goal

abbrev pub invariant-loop-terms : goal.invariant-loop-terms
invariant-loop-terms l = l.rows ≡ given_rows l.values (take l.terms-index l.bound)
