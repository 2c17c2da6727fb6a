use Rattle.std.proofs.Common.{◌≡◌, ◌++◌, take}
use Rattle.std.specs.Prelude.{IsTrue}
use Rattle.std.specs.List.{list_all}
use Rattle.rs_encode.specs.Form.{items_bytes}
use Rattle.rs_encode.proofs.list.put_items.Given as goal

abbrev pub invariant-loop-item : goal.invariant-loop-item
invariant-loop-item g l =
    (l.out ≡ l.fn.out ++ items_bytes g.C.Codec.form (take l.item-index l.items)) × IsTrue (list_all g.C.Codec.form.fits (take l.item-index l.items))
