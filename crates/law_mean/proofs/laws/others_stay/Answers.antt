use Rattle.law_mean.proofs.Lawful.{others_stay}
use Rattle.law_mean.proofs.laws.others_stay.Goals as goal

pub returns : goal.returns
returns c = others_stay
