use Rattle.rs_lock.proofs.Agreeing.{waiting_agrees}
use Rattle.rs_lock.proofs.laws.waiting_agrees.Goals as goal

pub returns : goal.returns
returns c = waiting_agrees
