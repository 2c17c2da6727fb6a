use Rattle.rs_lock.proofs.Counting.{waits_are_once}
use Rattle.rs_lock.proofs.laws.waits_once.Goals as goal

pub returns : goal.returns
returns c = waits_are_once
