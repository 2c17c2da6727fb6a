use Rattle.std.proofs.Common.{arith}
use Rattle.rs_world.specs.ReportText.{printed_entry}
use Rattle.rs_world.proofs.Places.{flat_map-enumerate-more, put_more}
use Rattle.rs_world.proofs.print.print_entries.Goals as goal

pub loop-entry-preserved : goal.loop-entry-preserved
loop-entry-preserved c =
    let more = flat_map-enumerate-more printed_entry 1 c.args.entries.now c.loop-entry.entry-index c.loop-entry.position c.entry-item.result c.loop-entry-test.true c.entry-item.is c.loop-entry.invariant.0 in
    (omega arith, put_more _ _ _ _ _ _ more c.loop-entry.invariant.1 c.in_ok-print_entry.ensures)
