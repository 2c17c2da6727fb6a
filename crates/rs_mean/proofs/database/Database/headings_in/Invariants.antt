use Rattle.std.proofs.Common.{◌≡◌, map, take}
use Rattle.rs_mean.specs.RowStatements.{heading_in}
use Rattle.rs_mean.proofs.database.Database.headings_in.Given as goal

abbrev pub invariant-loop-name : goal.invariant-loop-name
invariant-loop-name l = l.headings ≡ map (heading_in l.self) (take l.name-index l.names)
