use Rattle.rs_lock.proofs.Covering.{leaves_nothing}
use Rattle.rs_lock.proofs.laws.leaves_nothing.Goals as goal

pub returns : goal.returns
returns c = leaves_nothing
