use Rattle.rs_rows.proofs.SlotLaws.{pushed_counted}
use Rattle.rs_rows.proofs.slots.Slots.push.Goals as goal

pub invariant_of-self-2 : goal.invariant_of-self-2
invariant_of-self-2 c = rw c.in_ok-push.ensures.items (assumption (pushed_counted c.args.row _ _ _ c.self.invariant))
