use Rattle.law_mean.proofs.Lawful.{rows_are_taken_out}
use Rattle.law_mean.proofs.laws.rows_are_taken_out.Goals as goal

pub returns : goal.returns
returns c = rows_are_taken_out
