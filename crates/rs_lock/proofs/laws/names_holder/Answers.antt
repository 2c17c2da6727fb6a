use Rattle.rs_lock.proofs.LawProofs.{names_holder}
use Rattle.rs_lock.proofs.laws.names_holder.Goals as goal

pub returns : goal.returns
returns c = names_holder
