use Rattle.std.proofs.Common.{◌≡◌, take}
use Rattle.rs_disk.proofs.image.copy_calls.Given as goal

abbrev pub invariant-loop-call : goal.invariant-loop-call
invariant-loop-call l = l.copy ≡ take l.call-index l.calls
