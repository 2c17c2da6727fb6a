use Rattle.std.proofs.Common.{◌≡◌, map}
use Rattle.rs_bind.specs.Entries.{valued}
use Rattle.rs_bind.proofs.statements.valued_params.Given as goal

abbrev pub invariant-loop-name : goal.invariant-loop-name
invariant-loop-name l = l.params ≡ map (λ both. valued both.0.now both.1.now) l.yielded
