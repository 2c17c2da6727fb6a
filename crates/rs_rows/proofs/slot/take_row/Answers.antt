use Rattle.std.proofs.Common.{refl}
use Rattle.rs_rows.proofs.SlotLaws.{numbers_stay}
use Rattle.rs_rows.proofs.slot.take_row.Goals as goal

pub returns-clause-numbers : goal.returns-clause-numbers
returns-clause-numbers c =
    let has = rw c.as_slice.ensures.value at c.in_ok-at.ensures in
    let stay = numbers_stay c.args.number c.args.slots.now.items c.in_ok-at.at c.index_mut.result.now in
    assumption (stay (record { number = c.index_mut.result.now.number; row = c.take.new.self }) has c.index_mut.ensures.value refl)
