use Rattle.std.proofs.Common.{◌≡◌, take, map, cond, false, Some, None}
use Rattle.std.specs.List.{list_any}
use Rattle.rs_answer.specs.Items.{item_value, item_overflows, all_of}
use Rattle.rs_answer.proofs.items.group_row.Given as goal

abbrev pub invariant-loop-item : goal.invariant-loop-item
invariant-loop-item l =
    let seen = take l.item-index l.items in
    (all_of (map (item_value l.members) seen) ≡ cond l.whole (Some l.row) None)
    × (list_any (item_overflows l.members) seen ≡ false)
