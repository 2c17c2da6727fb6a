use Rattle.law_mean.proofs.Lawful.{rows_stay_typed}
use Rattle.law_mean.proofs.laws.rows_stay_typed.Goals as goal

pub returns : goal.returns
returns c = rows_stay_typed
