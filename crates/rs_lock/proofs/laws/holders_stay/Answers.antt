use Rattle.rs_lock.proofs.Reaching.{holders_stay}
use Rattle.rs_lock.proofs.laws.holders_stay.Goals as goal

pub returns : goal.returns
returns c = holders_stay
