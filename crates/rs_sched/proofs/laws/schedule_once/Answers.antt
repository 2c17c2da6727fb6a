use Rattle.rs_sched.proofs.ScheduleLaws.{schedule_once}
use Rattle.rs_sched.proofs.laws.schedule_once.Goals as goal

pub returns : goal.returns
returns c = schedule_once
