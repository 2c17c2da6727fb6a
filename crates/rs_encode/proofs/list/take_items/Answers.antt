use Rattle.rs_encode.proofs.Loops.{item_more}
use Rattle.rs_encode.proofs.list.take_items.Goals as goal

pub loop-preserved : goal.loop-preserved
loop-preserved g c =
    item_more g.C.Codec.form c.loop.items _ c.args.n c.loop.counter c.loop.fields _ _ _ c.loop-test.true c.in_ok-take.ensures c.in_ok-push.ensures.ok c.loop.invariant
