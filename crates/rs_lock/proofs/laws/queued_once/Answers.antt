use Rattle.rs_lock.proofs.LawProofs.{queued_once}
use Rattle.rs_lock.proofs.laws.queued_once.Goals as goal

pub returns : goal.returns
returns c = queued_once
