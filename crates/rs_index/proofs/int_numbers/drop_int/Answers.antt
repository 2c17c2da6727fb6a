use Rattle.std.proofs.Common.{SFits, w64}
use Rattle.std.proofs.lemmas.Int.{to_z-of_z}
use Rattle.rs_index.proofs.int_numbers.drop_int.Goals as goal

pub returns-clause-test : goal.returns-clause-test
returns-clause-test c =
    let fits : SFits w64 c.args.n = c.ranges.n in
    simp to_z-of_z at c.remove.ensures.test

pub returns-clause-pairs : goal.returns-clause-pairs
returns-clause-pairs c =
    let fits : SFits w64 c.args.n = c.ranges.n in
    simp to_z-of_z at c.remove.ensures.keys
