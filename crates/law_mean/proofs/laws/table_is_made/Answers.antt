use Rattle.law_mean.proofs.Lawful.{table_is_made}
use Rattle.law_mean.proofs.laws.table_is_made.Goals as goal

pub returns : goal.returns
returns c = table_is_made
