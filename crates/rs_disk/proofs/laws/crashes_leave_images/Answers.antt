use Rattle.std.proofs.Common.{[]}
use Rattle.rs_disk.specs.Disk.{settled, state_of}
use Rattle.rs_disk.proofs.Images.{crash_leaves}
use Rattle.rs_disk.proofs.Crashes.{course_in_range}
use Rattle.rs_disk.proofs.laws.crashes_leave_images.Goals as goal

pub returns : goal.returns
returns c acts writes bytes may = crash_leaves (state_of acts) writes bytes (course_in_range acts (settled []) tt may)
