use Rattle.rs_lock.proofs.Holding.{held_once}
use Rattle.rs_lock.proofs.laws.held_once.Goals as goal

pub returns : goal.returns
returns c = held_once
