use Rattle.rs_lock.proofs.Counting.{queued_is_counted}
use Rattle.rs_lock.proofs.laws.queued_is_counted.Goals as goal

pub returns : goal.returns
returns c = queued_is_counted
