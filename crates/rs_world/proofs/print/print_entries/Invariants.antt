use Rattle.std.proofs.Common.{◌≡◌, ◌++◌, ◌+◌, take}
use Rattle.std.specs.Prelude.{flat_map}
use Rattle.std.specs.List.{enumerate_from}
use Rattle.rs_world.specs.ReportText.{printed_entry}
use Rattle.rs_world.proofs.print.print_entries.Given as goal

abbrev pub invariant-loop-entry : goal.invariant-loop-entry
invariant-loop-entry l = (l.position ≡ 1 + l.entry-index) × (l.out ≡ l.fn.out ++ flat_map printed_entry (enumerate_from 1 (take l.entry-index l.entries)))
