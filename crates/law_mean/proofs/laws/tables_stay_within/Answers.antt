use Rattle.law_mean.proofs.Lawful.{tables_stay_within}
use Rattle.law_mean.proofs.laws.tables_stay_within.Goals as goal

pub returns : goal.returns
returns c = tables_stay_within
