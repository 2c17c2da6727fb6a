-- The fields of a disk in memory: its content and its state are those after all that happened to it.
use Rattle.std.specs.Prelude.{◌≡◌}
use Rattle.rs_disk.specs.declared.mem_disk.MemDisk.TheInside.{Inside}
use Rattle.rs_disk.specs.Disk.{content, state_of}
use Rattle.rs_disk.specs.Images.{IsInRange}

pub record IsKept (a : Inside) : Type 0 where
  pub state : a.state ≡ state_of a.acts
  pub content : a.content.items ≡ content a.state
  pub in_range : IsInRange a.state
