-- The actions of a settle.
use Rattle.std.proofs.Common.{◌≡◌, replicate, refl}
use Rattle.rs_course.specs.Course.{GiveNext, deliveries}

pub deliveries_are : deliveries ≡ replicate 16777216 GiveNext
unfolding deliveries
deliveries_are = refl
