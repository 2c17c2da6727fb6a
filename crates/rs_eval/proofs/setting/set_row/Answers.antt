use Rattle.rs_eval.proofs.Sets.{overflows, all_set}
use Rattle.rs_eval.proofs.setting.set_row.Goals as goal

pub returns-in_default : goal.returns-in_default
returns-in_default c =
    overflows c.args.sets.now c.args.values.now c.args.row.now c.loop-set.set-index c.set-item.result c.loop-set-test.true c.set-item.is
    (rw c.in_default.is at c.in_ok-value.ensures)

pub returns : goal.returns
returns c =
    all_set c.args.sets.now c.args.values.now c.args.row.now c.loop-set.new c.loop-set.set-index c.loop-set-test.false c.loop-set.invariant.0 c.loop-set.invariant.1
