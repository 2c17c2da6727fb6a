use Rattle.std.proofs.Common.{rules}
use Rattle.std.proofs.lemmas.List.Sorted.{answers_always}
use Rattle.rs_rows.proofs.SlotLaws.{found_by_search}
use Rattle.rs_rows.proofs.slot.position.Goals as goal

pub returns : goal.returns
returns c =
    rw c.ok.ensures.value
    (found_by_search c.args.number c.args.slots.now c.binary_search_by_key.result c.requires c.binary_search_by_key.ensures.bound
    (c.binary_search_by_key.ensures.position (λ slot. slot.number) (answers_always _ _ _ (λ f a r q k. search rules))))
