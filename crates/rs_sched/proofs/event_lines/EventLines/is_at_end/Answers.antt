use Rattle.rs_sched.proofs.NextLaws.{none_left}
use Rattle.rs_sched.proofs.event_lines.EventLines.is_at_end.Goals as goal

pub returns : goal.returns
returns c = rw (← c.self.view_is, c.len.ensures) (none_left c.self.inside.left)
