use Rattle.std.proofs.Common.{◌≡◌, length}
use Rattle.rs_disk.specs.Disk.{all_applied}
use Rattle.rs_disk.specs.MemDisk.{kept}
use Rattle.rs_disk.proofs.image.crash.Given as goal

abbrev pub invariant-loop-left : goal.invariant-loop-left
invariant-loop-left l = all_applied (kept l.writes l.bytes l.left) l.image.items ≡ all_applied (kept l.fn.writes l.fn.bytes l.fn.changes) l.fn.base

abbrev pub decreases-loop-left : goal.decreases-loop-left
decreases-loop-left l = length l.left
