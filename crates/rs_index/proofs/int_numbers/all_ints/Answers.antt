use Rattle.std.proofs.Common.{◌∙◌}
use Rattle.rs_index.proofs.Ranges.{all_pass}
use Rattle.rs_index.proofs.int_numbers.all_ints.Goals as goal

pub returns : goal.returns
returns c = c.range.ensures.between tt ∙ all_pass c.args.ints.now.keys
