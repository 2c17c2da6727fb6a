use Rattle.std.proofs.Common.{◌∙◌, refl, sym}
use Rattle.rs_answer.proofs.Rows.{row_more, row_less, none_more}
use Rattle.rs_answer.specs.Items.{item_value, item_overflows}
use Rattle.rs_answer.proofs.items.group_row.Goals as goal
use Rattle.rs_answer.proofs.items.group_row.Goals.{in-Some+in_ok-push-in-Some, in-None}

pub loop-item-preserved : goal.loop-item-preserved
loop-item-preserved c =
    let members = c.args.members.now in
    let items = c.args.items.now in
    let h = c.in_ok-value.ensures in
    let fits = none_more (item_overflows members) items c.loop-item.item-index _ _ c.loop-item-test.true refl c.loop-item.invariant.1 h.0 in
    elim c.match-branch-3.branch [
      | in-Some+in_ok-push-in-Some w ↦ (
        simp (w.whole-is, w.row-is, w.in_ok-push-in-Some.ensures.ok)
            (row_more (item_value members) items c.loop-item.item-index _ _ c.loop-item-test.true refl c.loop-item.whole c.loop-item.row w.in-Some.value c.loop-item.invariant.0 (sym w.in-Some.is ∙ h.1)),
        fits,
      )
      | in-None w ↦ (
        simp w.whole-is
            (row_less (item_value members) items c.loop-item.item-index _ _ c.loop-item-test.true refl c.loop-item.whole c.loop-item.row c.loop-item.invariant.0 (sym w.in-None.is ∙ h.1)),
        fits,
      )
    ]
