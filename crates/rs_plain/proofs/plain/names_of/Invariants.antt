use Rattle.std.proofs.Common.{◌≡◌, map, take}
use Rattle.rs_base.specs.Name.{resolve}
use Rattle.rs_plain.proofs.plain.names_of.Given as goal

abbrev pub invariant-loop-table : goal.invariant-loop-table
invariant-loop-table l = l.names ≡ map (λ table. resolve table.name l.user l.site) (take l.table-index l.tables)
