use Rattle.std.proofs.Common.{◌≡◌, map, take}
use Rattle.rs_bind_query.specs.Binding.{shape_key}
use Rattle.rs_bind_query.proofs.shape.shape_keys.Given as goal

abbrev pub invariant-loop-key : goal.invariant-loop-key
invariant-loop-key l = l.keys ≡ map (shape_key l.scope l.shown) (take l.key-index l.order)
