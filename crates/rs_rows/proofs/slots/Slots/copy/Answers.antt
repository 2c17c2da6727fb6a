use Rattle.std.proofs.Common.{◌≡◌, filter, ap, ◌∙◌}
use Rattle.rs_rows.proofs.SlotLaws.{live_counted}
use Rattle.rs_rows.specs.Slots.{is_live}
use Rattle.rs_rows.proofs.slots.Slots.copy.Goals as goal

pub invariant_of-result : goal.invariant_of-result
invariant_of-result c =
    let kept : c.in_ok-copy_live.field-0.items ≡ filter is_live c.self.inside.slots.items = c.in_ok-copy_live.ensures ∙ ap (filter is_live) c.as_slice.ensures.value in
    rw kept (assumption (live_counted _ _ _ c.self.invariant))
