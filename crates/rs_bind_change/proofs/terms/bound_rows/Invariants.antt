use Rattle.std.proofs.Common.{◌≡◌, take}
use Rattle.rs_bind_change.specs.Binding.{bound_rows}
use Rattle.rs_bind_change.proofs.terms.bound_rows.Given as goal

abbrev pub invariant-loop-row : goal.invariant-loop-row
invariant-loop-row l = l.bound ≡ bound_rows l.scope l.params (take l.row-index l.rows)
