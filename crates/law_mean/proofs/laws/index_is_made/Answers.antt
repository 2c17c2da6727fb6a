use Rattle.law_mean.proofs.Lawful.{index_is_made}
use Rattle.law_mean.proofs.laws.index_is_made.Goals as goal

pub returns : goal.returns
returns c = index_is_made
