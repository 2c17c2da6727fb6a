use Rattle.std.proofs.Common.{◌≡◌, map, take}
use Rattle.rs_mean.specs.Names.{name_of}
use Rattle.rs_mean.proofs.database.Database.names_of.Given as goal

abbrev pub invariant-loop-table : goal.invariant-loop-table
invariant-loop-table l = l.names ≡ map (λ table. name_of l.self l.execution table.name) (take l.table-index l.tables)
