use Rattle.rs_lock.proofs.Reaching.{counted_is_queued}
use Rattle.rs_lock.proofs.laws.counted_is_queued.Goals as goal

pub returns : goal.returns
returns c = counted_is_queued
