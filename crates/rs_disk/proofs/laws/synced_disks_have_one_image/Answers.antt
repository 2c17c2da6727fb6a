use Rattle.rs_disk.proofs.Images.{one_image}
use Rattle.rs_disk.proofs.laws.synced_disks_have_one_image.Goals as goal

pub returns : goal.returns
returns c = one_image
