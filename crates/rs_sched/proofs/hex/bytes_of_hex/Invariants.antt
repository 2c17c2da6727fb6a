use Rattle.std.proofs.Common.{◌≡◌, length}
use Rattle.rs_sched.specs.Numbers.{bytes_of_hex, with_bytes}
use Rattle.rs_sched.proofs.hex.bytes_of_hex.Given as goal

abbrev pub invariant-loop-left : goal.invariant-loop-left
invariant-loop-left l = with_bytes l.bytes (bytes_of_hex l.left) ≡ bytes_of_hex l.digits

abbrev pub decreases-loop-left : goal.decreases-loop-left
decreases-loop-left l = length l.left
