use Rattle.law_mean.proofs.Lawful.{synonym_is_made}
use Rattle.law_mean.proofs.laws.synonym_is_made.Goals as goal

pub returns : goal.returns
returns c = synonym_is_made
