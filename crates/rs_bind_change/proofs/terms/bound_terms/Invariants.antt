use Rattle.std.proofs.Common.{◌≡◌, map, take}
use Rattle.rs_bind_change.specs.Binding.{bound_term}
use Rattle.rs_bind_change.proofs.terms.bound_terms.Given as goal

abbrev pub invariant-loop-term : goal.invariant-loop-term
invariant-loop-term l = l.bound ≡ map (bound_term l.scope l.params) (take l.term-index l.row)
