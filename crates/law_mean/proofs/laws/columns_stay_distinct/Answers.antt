use Rattle.law_mean.proofs.Lawful.{columns_stay_distinct}
use Rattle.law_mean.proofs.laws.columns_stay_distinct.Goals as goal

pub returns : goal.returns
returns c = columns_stay_distinct
