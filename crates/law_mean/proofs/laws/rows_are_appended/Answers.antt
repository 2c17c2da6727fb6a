use Rattle.law_mean.proofs.Lawful.{rows_are_appended}
use Rattle.law_mean.proofs.laws.rows_are_appended.Goals as goal

pub returns : goal.returns
returns c = rows_are_appended
