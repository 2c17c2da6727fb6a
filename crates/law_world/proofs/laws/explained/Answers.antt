use Rattle.law_world.proofs.Explaining.{explains}
use Rattle.law_world.proofs.laws.explained.Goals as goal

pub returns : goal.returns
returns c = explains
