use Rattle.std.proofs.Common.{◌≡◌, None, length}
use Rattle.rs_sched.specs.Reader.{lines_of, lines_at, with_events}
use Rattle.rs_sched.proofs.ReadLoop.{events_left}
use Rattle.rs_sched.proofs.reader.events_of.Given as goal

abbrev pub invariant-loop-events : goal.invariant-loop-events
invariant-loop-events l = with_events l.events (events_left l.lines) ≡ lines_at None 0 (lines_of l.bytes)

abbrev pub decreases-loop-events : goal.decreases-loop-events
decreases-loop-events l = length l.lines.lines
