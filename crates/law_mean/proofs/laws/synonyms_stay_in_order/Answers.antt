use Rattle.law_mean.proofs.Lawful.{synonyms_stay_in_order}
use Rattle.law_mean.proofs.laws.synonyms_stay_in_order.Goals as goal

pub returns : goal.returns
returns c = synonyms_stay_in_order
