use Rattle.law_mean.proofs.Lawful.{names_stay_in_order}
use Rattle.law_mean.proofs.laws.names_stay_in_order.Goals as goal

pub returns : goal.returns
returns c = names_stay_in_order
