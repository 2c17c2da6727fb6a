use Rattle.rs_lock.proofs.LawProofs.{upgrades_first}
use Rattle.rs_lock.proofs.laws.upgrades_first.Goals as goal

pub returns : goal.returns
returns c = upgrades_first
