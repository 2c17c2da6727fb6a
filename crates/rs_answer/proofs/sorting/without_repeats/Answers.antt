use Rattle.std.proofs.Common.{rules}
use Rattle.std.proofs.lemmas.Fn.{dedup_same}
use Rattle.rs_answer.specs.Answer.{same_row}
use Rattle.rs_answer.proofs.sorting.without_repeats.Goals as goal

pub returns : goal.returns
returns c = dedup_same _ same_row _ (λ x y b f' x' y' k. search rules) _ _ c.dedup_by.ensures.filtered
