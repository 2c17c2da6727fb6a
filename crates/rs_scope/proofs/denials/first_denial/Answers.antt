use Rattle.rs_scope.proofs.FirstDenials.{one_passed, one_denied}
use Rattle.rs_scope.proofs.denials.first_denial.Goals as goal

pub returns-then-is_some : goal.returns-then-is_some
returns-then-is_some g c =
    λ tests is_denial.
    one_denied tests c.args.items.now c.loop-item.item-index c.item-item.result c.denial_of-denial.result _
    c.loop-item-test.true c.item-item.is (is_denial _ _ c.denial_of-denial.ensures) (cc) (c.loop-item.invariant.1 tests is_denial)

pub loop-item-preserved : goal.loop-item-preserved
loop-item-preserved g c = (
  c.loop-item.invariant.0,
  λ tests is_denial.
      one_passed tests c.args.items.now c.loop-item.item-index c.item-item.result c.denial_of-denial.result _
      c.loop-item-test.true c.item-item.is (is_denial _ _ c.denial_of-denial.ensures) (cc) (c.loop-item.invariant.1 tests is_denial),
)
