use Rattle.std.proofs.Common.{refl}
use Rattle.rs_rows.proofs.SlotLaws.{numbers_stay}
use Rattle.rs_rows.proofs.slot.swap_row.Goals as goal

pub returns-in-Some-clause-numbers : goal.returns-in-Some-clause-numbers
returns-in-Some-clause-numbers c =
    let has = rw c.as_slice.ensures.value at c.in-Some.ensures in
    let stay = numbers_stay c.args.number c.args.slots.now.items c.in-Some.at c.index_mut.result.now in
    assumption (stay (record { number = c.index_mut.result.now.number; row = c.swap_at.new.stored }) has c.index_mut.ensures.value refl)
