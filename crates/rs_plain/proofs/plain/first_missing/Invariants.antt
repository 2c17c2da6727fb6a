use Rattle.std.proofs.Common.{◌≡◌, drop}
use Rattle.std.specs.Prelude.{flat_map}
use Rattle.rs_scope.specs.Denials.{first_denial}
use Rattle.rs_plain.specs.Plain.{plain_tests}
use Rattle.rs_plain.proofs.plain.first_missing.Given as goal

abbrev pub invariant-loop-name : goal.invariant-loop-name
invariant-loop-name l = first_denial (flat_map (plain_tests l.tables) l.names) ≡ first_denial (flat_map (plain_tests l.tables) (drop l.name-index l.names))
