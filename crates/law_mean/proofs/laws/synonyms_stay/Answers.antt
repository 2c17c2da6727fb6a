use Rattle.law_mean.proofs.Lawful.{synonyms_stay}
use Rattle.law_mean.proofs.laws.synonyms_stay.Goals as goal

pub returns : goal.returns
returns c = synonyms_stay
