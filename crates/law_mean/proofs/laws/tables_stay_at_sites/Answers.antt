use Rattle.law_mean.proofs.Lawful.{tables_stay_at_sites}
use Rattle.law_mean.proofs.laws.tables_stay_at_sites.Goals as goal

pub returns : goal.returns
returns c = tables_stay_at_sites
