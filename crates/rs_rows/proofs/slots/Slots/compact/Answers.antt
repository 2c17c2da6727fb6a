use Rattle.std.proofs.Common.{◌≡◌, filter, ap, ◌∙◌, rules}
use Rattle.std.proofs.lemmas.List.Elements.{filter_from_retain}
use Rattle.rs_rows.proofs.SlotLaws.{live_counted, live_rows}
use Rattle.rs_rows.specs.Slots.{is_live, rows_in}
use Rattle.rs_rows.specs.TableRows.{TableRows, RowsByNumber}
use Rattle.rs_rows.proofs.slots.Slots.compact.Goals as goal

pub invariant_of-self : goal.invariant_of-self
invariant_of-self c =
    let kept : c.shrink_to_fit.new.self.items ≡ filter is_live c.self.inside.slots.items =
    c.shrink_to_fit.ensures.items ∙ filter_from_retain _ is_live (λ p x b q k. search rules) _ _ _ c.retain.ensures.filtered in
    rw kept (live_counted _ _ _ c.self.invariant)

pub returns-then-empty-len : goal.returns-then-empty-len
returns-then-empty-len c =
    let kept : c.shrink_to_fit.new.self.items ≡ filter is_live c.self.inside.slots.items =
    c.shrink_to_fit.ensures.items ∙ filter_from_retain _ is_live (λ p x b q k. search rules) _ _ _ c.retain.ensures.filtered in
    let rows : rows_in c.shrink_to_fit.new.self.items ≡ rows_in c.self.inside.slots.items = ap rows_in kept ∙ live_rows c.self.inside.slots.items in
    let with_next : RowsByNumber → TableRows = λ all. record { rows = all; next = c.self.inside.next } in
    ap with_next rows ∙ c.self.view_is
