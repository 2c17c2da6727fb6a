use Rattle.law_encode.proofs.Whole.{statements_are_short}
use Rattle.law_encode.proofs.laws.statements_are_short.Goals as goal

pub returns : goal.returns
returns c = statements_are_short
