use Rattle.rs_lock.proofs.LawProofs.{asks_of_holder}
use Rattle.rs_lock.proofs.laws.waits_for_holder.Goals as goal

pub returns : goal.returns
returns c = asks_of_holder
