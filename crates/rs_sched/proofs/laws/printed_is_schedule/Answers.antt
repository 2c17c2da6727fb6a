use Rattle.rs_sched.proofs.PrintLaws.{printed_is_schedule}
use Rattle.rs_sched.proofs.laws.printed_is_schedule.Goals as goal

pub returns : goal.returns
returns c = printed_is_schedule
