use Rattle.law_mean.proofs.Lawful.{index_is_dropped}
use Rattle.law_mean.proofs.laws.index_is_dropped.Goals as goal

pub returns : goal.returns
returns c = index_is_dropped
