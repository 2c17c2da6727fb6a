use Rattle.std.proofs.Common.{sym}
use Rattle.rs_rows.proofs.SlotLaws.{taken_counted}
use Rattle.rs_rows.proofs.slots.Slots.take.Goals as goal

pub invariant_of-self-2 : goal.invariant_of-self-2
invariant_of-self-2 c =
    let kept = taken_counted c.args.number c.in_ok-row.row c.self.inside.slots.items c.take_row.new.slots.items _ _ c.self.invariant in
    assumption (kept c.in_ok-row.ensures.numbers c.in_ok-row.ensures.rows (sym c.in_ok-row.ensures.row)).1
