use Rattle.law_world.proofs.Calm.{played_is_calm}
use Rattle.law_world.proofs.laws.played_is_calm.Goals as goal

pub returns : goal.returns
returns c = played_is_calm
