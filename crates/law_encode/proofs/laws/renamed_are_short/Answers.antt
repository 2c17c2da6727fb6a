use Rattle.law_encode.proofs.Whole.{renamed_are_short}
use Rattle.law_encode.proofs.laws.renamed_are_short.Goals as goal

pub returns : goal.returns
returns c = renamed_are_short
