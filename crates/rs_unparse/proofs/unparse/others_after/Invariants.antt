use Rattle.std.proofs.Common.{◌≡◌, ◌++◌, flat_map, take}
use Rattle.rs_unparse.specs.Unparsed.{unparsed_after}
use Rattle.rs_unparse.proofs.unparse.others_after.Given as goal

abbrev pub invariant-loop-item : goal.invariant-loop-item
invariant-loop-item g l = l.out ≡ l.fn.out ++ flat_map (unparsed_after l.separator g.T.Unparse.unparsed) (take l.item-index l.items)
