use Rattle.std.proofs.Common.{◌≡◌, ◌++◌, take}
use Rattle.std.specs.Prelude.{flat_map}
use Rattle.rs_world.specs.ReportText.{printed_site}
use Rattle.rs_world.proofs.print.print_sites.Given as goal

abbrev pub invariant-loop-view : goal.invariant-loop-view
invariant-loop-view l = l.out ≡ l.fn.out ++ flat_map printed_site (take l.view-index l.sites)
