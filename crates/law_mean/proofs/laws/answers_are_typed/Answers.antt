use Rattle.law_mean.proofs.Lawful.{answers_are_typed}
use Rattle.law_mean.proofs.laws.answers_are_typed.Goals as goal

pub returns : goal.returns
returns c = answers_are_typed
