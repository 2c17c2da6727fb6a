use Rattle.std.proofs.Common.{SFits, w64}
use Rattle.std.proofs.lemmas.Int.{to_z-of_z}
use Rattle.rs_index.proofs.int_numbers.add_int.Goals as goal

pub returns-clause-ok : goal.returns-clause-ok
returns-clause-ok c =
    let fits : SFits w64 c.args.n = c.ranges.n in
    simp to_z-of_z at c.in_ok-insert.ensures.keys
