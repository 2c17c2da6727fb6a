use Rattle.rs_lock.proofs.LawProofs.{blocked_by_holder}
use Rattle.rs_lock.proofs.laws.blocked_by_holder.Goals as goal

pub returns : goal.returns
returns c = blocked_by_holder
