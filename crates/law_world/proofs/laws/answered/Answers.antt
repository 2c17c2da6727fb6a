use Rattle.law_world.proofs.Answering.{answers}
use Rattle.law_world.proofs.laws.answered.Goals as goal

pub returns : goal.returns
returns c = λ events valid are calm few. answers events valid are few
