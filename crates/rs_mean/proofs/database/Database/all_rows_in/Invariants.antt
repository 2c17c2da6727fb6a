use Rattle.std.proofs.Common.{◌≡◌, map, take}
use Rattle.rs_mean.specs.RowStatements.{rows_in}
use Rattle.rs_mean.proofs.database.Database.all_rows_in.Given as goal

abbrev pub invariant-loop-name : goal.invariant-loop-name
invariant-loop-name l = l.tables.items ≡ map (rows_in l.self) (take l.name-index l.names)
