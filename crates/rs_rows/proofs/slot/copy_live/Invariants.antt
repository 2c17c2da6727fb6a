use Rattle.std.proofs.Common.{◌≡◌, filter, take}
use Rattle.rs_rows.specs.Slots.{is_live}
use Rattle.rs_rows.proofs.slot.copy_live.Given as goal

abbrev pub invariant-loop-slot : goal.invariant-loop-slot
invariant-loop-slot l = l.copy.items ≡ filter is_live (take l.slot-index l.slots)
