use Rattle.std.proofs.Common.{◌∙◌, sym}
use Rattle.rs_answer.proofs.Chosen.{greatest_more}
use Rattle.rs_answer.proofs.items.greatest_at.Goals as goal

pub loop-row-preserved : goal.loop-row-preserved
loop-row-preserved c =
    let more = greatest_more c.args.column_index c.args.members.now c.loop-row.row-index _ c.loop-row-test.true c.row-item.is in
    c.greater-greatest.ensures ∙ simp (c.loop-row.invariant, c.value_at.ensures) (sym more)
