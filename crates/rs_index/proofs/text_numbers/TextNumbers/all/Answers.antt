use Rattle.std.proofs.Common.{sym, ap, ◌∙◌}
use Rattle.rs_index.specs.TextPairs.{numbers_of}
use Rattle.rs_index.proofs.Ranges.{all_pass}
use Rattle.rs_index.proofs.TextLaws.{all_numbers}
use Rattle.rs_index.proofs.text_numbers.TextNumbers.all.Goals as goal

pub returns : goal.returns
returns c =
    rw (← c.self.view_is)
    (c.new.ensures ∙ ap numbers_of (c.range.ensures.between tt ∙ all_pass c.self.inside.sets.entries) ∙ sym (all_numbers c.self.inside.sets.entries))
