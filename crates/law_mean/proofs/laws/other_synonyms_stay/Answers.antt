use Rattle.law_mean.proofs.Lawful.{other_synonyms_stay}
use Rattle.law_mean.proofs.laws.other_synonyms_stay.Goals as goal

pub returns : goal.returns
returns c = other_synonyms_stay
