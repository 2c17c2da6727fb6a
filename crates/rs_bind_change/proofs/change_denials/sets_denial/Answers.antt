use Rattle.rs_bind_change.proofs.SetDenials.{set_passed, set_denied}
use Rattle.rs_bind_change.proofs.change_denials.sets_denial.Goals as goal

pub returns-then-is_some : goal.returns-then-is_some
returns-then-is_some c =
    set_denied c.args.scope.now c.args.params.now c.args.sets.now c.loop-at.at c.index-sets-at.result c.set_denial-denial.result _
    c.loop-at-test.true c.index-sets-at.is c.set_denial-denial.ensures (cc) c.loop-at.invariant

pub loop-at-preserved : goal.loop-at-preserved
loop-at-preserved c =
    set_passed c.args.scope.now c.args.params.now c.args.sets.now c.loop-at.at c.index-sets-at.result c.set_denial-denial.result _
    c.loop-at-test.true c.index-sets-at.is c.set_denial-denial.ensures (cc) c.loop-at.invariant
