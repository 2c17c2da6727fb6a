use Rattle.std.proofs.Common.{◌≡◌, map, take}
use Rattle.rs_bind_query.specs.Binding.{shape_item}
use Rattle.rs_bind_query.proofs.shape.shape_items.Given as goal

abbrev pub invariant-loop-item : goal.invariant-loop-item
invariant-loop-item l = l.items ≡ map (shape_item l.scope) (take l.item-index l.shown)
