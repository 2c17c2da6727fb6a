use Rattle.std.proofs.Common.{◌≡◌, map, take}
use Rattle.rs_bind_change.specs.Binding.{bound_set}
use Rattle.rs_bind_change.proofs.terms.bound_sets.Given as goal

abbrev pub invariant-loop-set : goal.invariant-loop-set
invariant-loop-set l = l.bound ≡ map (bound_set l.scope l.params) (take l.set-index l.sets)
