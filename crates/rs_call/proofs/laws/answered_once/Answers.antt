use Rattle.rs_call.proofs.CallerLaws.{answered_once}
use Rattle.rs_call.proofs.laws.answered_once.Goals as goal

pub returns : goal.returns
returns g c = answered_once _
