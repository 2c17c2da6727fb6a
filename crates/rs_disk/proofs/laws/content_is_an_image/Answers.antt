use Rattle.std.proofs.Common.{[]}
use Rattle.rs_disk.specs.Disk.{settled, state_of}
use Rattle.rs_disk.proofs.Images.{content_leaves}
use Rattle.rs_disk.proofs.Crashes.{course_in_range}
use Rattle.rs_disk.proofs.laws.content_is_an_image.Goals as goal

pub returns : goal.returns
returns c acts may = content_leaves (state_of acts) (course_in_range acts (settled []) tt may)
