use Rattle.std.proofs.Common.{◌≡◌}
use Rattle.rs_commit.specs.Play.{new_parts}
use Rattle.rs_commit.proofs.parts.new_parts.Given as goal

abbrev pub invariant-loop-number : goal.invariant-loop-number
invariant-loop-number l = l.made.items ≡ new_parts l._number
