use Rattle.std.proofs.Common.{◌≡◌, List, drop}
use Rattle.rs_scope.specs.DenialOf.{IsDenialBy}
use Rattle.rs_scope.specs.Denials.{Test}
use Rattle.rs_scope.proofs.FirstDenials.{first_of}
use Rattle.rs_scope.proofs.denials.first_denial.Given as goal

abbrev pub invariant-loop-item : goal.invariant-loop-item
invariant-loop-item g l =
    goal.F-IsAlwaysCallable g l.denial_of
    × ((tests : _ → List Test) → IsDenialBy tests (goal.F-post g l.denial_of) → first_of tests (drop l.item-index l.items) ≡ first_of tests l.items)
