use Rattle.std.proofs.Common.{◌≡◌, reverse, length}
use Rattle.rs_course.specs.History.{with_entries}
use Rattle.rs_world.proofs.history.History.append_new.Given as goal

abbrev pub invariant-loop-entry : goal.invariant-loop-entry
invariant-loop-entry l = with_entries l.self (reverse l.left) ≡ with_entries l.fn.self l.fn.entries

abbrev pub decreases-loop-entry : goal.decreases-loop-entry
decreases-loop-entry l = length l.left
