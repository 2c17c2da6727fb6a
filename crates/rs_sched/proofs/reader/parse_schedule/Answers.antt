use Rattle.rs_sched.proofs.ScheduleLaws.{parse_found, parse_only, parse_fault}
use Rattle.rs_sched.proofs.reader.parse_schedule.Goals as goal

pub returns-clause-found : goal.returns-clause-found
returns-clause-found c = parse_found c.args.bytes.now c.read.result c.read.ensures.exact

pub returns-clause-only : goal.returns-clause-only
returns-clause-only c = parse_only c.args.bytes.now c.read.result c.read.ensures.exact

pub returns-clause-fault : goal.returns-clause-fault
returns-clause-fault c = parse_fault c.args.bytes.now c.read.result c.read.ensures.exact
