use Rattle.rs_call.proofs.Deliveries.{runs_each_once_in_order}
use Rattle.rs_call.proofs.laws.runs_each_once_in_order.Goals as goal

pub returns : goal.returns
returns g c = runs_each_once_in_order g.B.Body.runs
