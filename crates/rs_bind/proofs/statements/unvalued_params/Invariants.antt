use Rattle.std.proofs.Common.{◌≡◌, map, take}
use Rattle.rs_bind.specs.Entries.{unvalued}
use Rattle.rs_bind.proofs.statements.unvalued_params.Given as goal

abbrev pub invariant-loop-name : goal.invariant-loop-name
invariant-loop-name l = l.params ≡ map unvalued (take l.name-index l.names)
