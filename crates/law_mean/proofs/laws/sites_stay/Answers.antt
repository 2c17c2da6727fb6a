use Rattle.law_mean.proofs.Lawful.{sites_stay}
use Rattle.law_mean.proofs.laws.sites_stay.Goals as goal

pub returns : goal.returns
returns c = sites_stay
