use Rattle.rs_sched.proofs.FaultLaws.{fault_once, schedule_no_fault}
use Rattle.rs_sched.proofs.laws.fault_once.Goals as goal

pub returns-clause-once : goal.returns-clause-once
returns-clause-once c = fault_once

pub returns-clause-none : goal.returns-clause-none
returns-clause-none c = schedule_no_fault
