use Rattle.rs_lock.proofs.Waiting.{waits_end}
use Rattle.rs_lock.proofs.laws.waits_end.Goals as goal

pub returns : goal.returns
returns c = waits_end
