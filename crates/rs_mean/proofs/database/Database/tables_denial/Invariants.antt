use Rattle.std.proofs.Common.{◌≡◌, drop}
use Rattle.std.specs.Prelude.{flat_map}
use Rattle.rs_scope.specs.Denials.{first_denial}
use Rattle.rs_mean.specs.Names.{table_tests}
use Rattle.rs_mean.proofs.database.Database.tables_denial.Given as goal

abbrev pub invariant-loop-name : goal.invariant-loop-name
invariant-loop-name l = first_denial (flat_map (table_tests l.self) l.names) ≡ first_denial (flat_map (table_tests l.self) (drop l.name-index l.names))
