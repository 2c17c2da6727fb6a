use Rattle.law_mean.proofs.Lawful.{select_changes_nothing}
use Rattle.law_mean.proofs.laws.select_changes_nothing.Goals as goal

pub returns : goal.returns
returns c = select_changes_nothing
