use Rattle.std.proofs.Common.{◌≡◌, ◌∙◌, ◌+◌, [], ◌∷◌, List, ap, sym, subst, drop, map}
use Rattle.std.proofs.lemmas.List.{drop_more}
use Rattle.rs_base.specs.declared.value.Value.{Value}
use Rattle.rs_answer.proofs.Progress.{Progress, progress_more}
use Rattle.rs_answer.proofs.groups.each_alone.Goals as goal

alone : List (List Value) → List (List (List Value))
alone rows = map (λ row. row ∷ []) rows

pub loop-row-preserved : goal.loop-row-preserved
unfolding alone
loop-row-preserved c =
    let rows = c.args.rows.now in
    let items = c.args.items.now in
    let i = c.loop-row.row-index in
    let members = c.from_ref.result.now in
    let others = alone (drop (i + 1) rows) in
    let first = drop_more rows i c.row-item.result c.loop-row-test.true in
    let only = ap (λ (row : List Value). row ∷ []) (sym c.row-item.is) ∙ sym c.from_ref.ensures.value in
    let left : alone (drop i rows) ≡ members ∷ others = ap alone first ∙ ap (λ (group : List (List Value)). group ∷ others) only in
    let so_far = subst (λ (left : List (List (List Value))). Progress items c.loop-row.given.items left (alone rows)) left c.loop-row.invariant in
    progress_more items c.loop-row.given.items members others (alone rows) so_far c.push_group.new.rows.items c.in_ok-push_group.ensures.0 c.in_ok-push_group.ensures.1
