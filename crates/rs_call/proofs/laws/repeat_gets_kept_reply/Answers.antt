use Rattle.rs_call.proofs.Deliveries.{repeat_gets_kept_reply}
use Rattle.rs_call.proofs.laws.repeat_gets_kept_reply.Goals as goal

pub returns : goal.returns
returns g c = repeat_gets_kept_reply g.B.Body.runs
