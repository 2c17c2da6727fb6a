use Rattle.law_encode.proofs.Whole.{programs_are_short}
use Rattle.law_encode.proofs.laws.programs_are_short.Goals as goal

pub returns : goal.returns
returns c = programs_are_short
