use Rattle.law_mean.proofs.Lawful.{indexes_stay_distinct}
use Rattle.law_mean.proofs.laws.indexes_stay_distinct.Goals as goal

pub returns : goal.returns
returns c = indexes_stay_distinct
