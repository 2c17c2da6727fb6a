use Rattle.rs_exec.proofs.PageLaws.{size_more}
use Rattle.rs_exec.proofs.page.values_size.Goals as goal

pub loop-column-preserved : goal.loop-column-preserved
loop-column-preserved c =
    size_more c.args.columns.now c.args.row.now c.loop-column.column-index c.loop-column.size c.size_at.result c.saturating_add-size.result
    c.loop-column-test.true c.loop-column.invariant c.size_at.ensures c.saturating_add-size.ensures
