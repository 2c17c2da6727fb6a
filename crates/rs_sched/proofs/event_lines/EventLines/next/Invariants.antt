use Rattle.std.proofs.Common.{◌≡◌, length}
use Rattle.rs_sched.specs.Next.{next_in, passed_in}
use Rattle.rs_sched.proofs.event_lines.EventLines.next.Given as goal

abbrev pub invariant-loop-alloc : goal.invariant-loop-alloc
invariant-loop-alloc l =
    (next_in l.self.sites l.self.before l.self.lines ≡ next_in l.fn.self.sites l.fn.self.before l.fn.self.lines)
    × (passed_in l.self.sites l.self.before l.self.lines ≡ passed_in l.fn.self.sites l.fn.self.before l.fn.self.lines)

abbrev pub decreases-loop-alloc : goal.decreases-loop-alloc
decreases-loop-alloc l = length l.self.lines
