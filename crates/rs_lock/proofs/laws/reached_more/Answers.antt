use Rattle.rs_lock.proofs.Reaching.{reached_more}
use Rattle.rs_lock.proofs.laws.reached_more.Goals as goal

pub returns : goal.returns
returns c = reached_more
