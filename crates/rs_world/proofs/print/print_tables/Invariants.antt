use Rattle.std.proofs.Common.{◌≡◌, ◌++◌, take}
use Rattle.std.specs.Prelude.{flat_map}
use Rattle.rs_world.specs.ReportText.{printed_table}
use Rattle.rs_world.proofs.print.print_tables.Given as goal

abbrev pub invariant-loop-table : goal.invariant-loop-table
invariant-loop-table l = l.out ≡ l.fn.out ++ flat_map printed_table (take l.table-index l.tables)
