use Rattle.std.proofs.Common.{◌∙◌, ◌∷◌, [], ap, take, arith}
use Rattle.std.proofs.lemmas.Int.{ints}
use Rattle.rs_answer.specs.Items.{sum_of, values_at}
use Rattle.rs_answer.proofs.Chosen.{values_more, sum_append}
use Rattle.rs_answer.proofs.items.sum_at.Goals as goal

pub loop-row-preserved : goal.loop-row-preserved
loop-row-preserved c =
    let column_index = c.args.column_index in
    let before = values_at column_index (take c.loop-row.row-index c.args.members.now) in
    let more = ap sum_of (values_more column_index c.args.members.now c.loop-row.row-index _ c.loop-row-test.true c.row-item.is) ∙ sum_append before (values_at column_index (c.row-item.result ∷ [])) in
    (omega (arith, ints), omega (arith, ints), omega (arith, ints))
