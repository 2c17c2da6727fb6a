use Rattle.std.proofs.Common.{ap, ◌∙◌, SFits, w64}
use Rattle.std.specs.Prelude.{filter}
use Rattle.std.specs.BTreeMap.Range.{range_contains}
use Rattle.std.proofs.lemmas.Int.{to_z-of_z}
use Rattle.rs_index.specs.IntPairs.{int_pair_cmp}
use Rattle.rs_index.proofs.Ranges.{ints_between}
use Rattle.rs_index.proofs.int_numbers.range_of_ints.Goals as goal

pub returns : goal.returns
returns c =
    let fits : SFits w64 c.args.n = c.ranges.n in
    let bounds = simp to_z-of_z at c.bounds_of.ensures in
    c.range.ensures.between tt
    ∙ ap (λ b. filter (range_contains int_pair_cmp b.0 b.1) c.args.ints.now.keys) bounds
    ∙ ints_between c.args.op c.requires.op c.args.n c.args.ints.now.keys c.requires.numbers
