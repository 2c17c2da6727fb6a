use Rattle.std.proofs.Common.{SFits, w64, sym}
use Rattle.std.proofs.lemmas.Int.{to_z-of_z}
use Rattle.rs_index.proofs.Ranges.{range_by_int}
use Rattle.rs_index.proofs.index.Index.range_by_int.Goals as goal

pub returns : goal.returns
returns c =
    let fits : SFits w64 c.args.n = c.ranges.n in
    let ints = simp to_z-of_z at c.range_of_ints.ensures in
    rw (← c.self.view_is, c.new.ensures, ints, c.texts_above-texts.ensures)
    (sym (range_by_int c.args.op c.args.n c.self.inside.ints.keys c.self.inside.texts))
