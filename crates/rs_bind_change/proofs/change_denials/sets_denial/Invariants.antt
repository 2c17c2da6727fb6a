use Rattle.std.proofs.Common.{◌≡◌, []}
use Rattle.rs_bind_change.specs.Denials.{sets_tests}
use Rattle.rs_scope.specs.Denials.{first_denial}
use Rattle.rs_bind_change.proofs.SetDenials.{first_from}
use Rattle.rs_bind_change.proofs.change_denials.sets_denial.Given as goal

abbrev pub invariant-loop-at : goal.invariant-loop-at
invariant-loop-at l = first_from l.scope l.params l.sets l.at ≡ first_denial (sets_tests l.scope l.params [] l.sets)
