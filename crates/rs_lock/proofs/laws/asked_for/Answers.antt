use Rattle.rs_lock.proofs.Covering.{asked_for}
use Rattle.rs_lock.proofs.laws.asked_for.Goals as goal

pub returns : goal.returns
returns c = asked_for
