use Rattle.rs_lock.proofs.Settling.{grants_while_it_can}
use Rattle.rs_lock.proofs.laws.grants_while_it_can.Goals as goal

pub returns : goal.returns
returns c = grants_while_it_can
