use Rattle.law_mean.proofs.Lawful.{denied_changes_nothing}
use Rattle.law_mean.proofs.laws.denied_changes_nothing.Goals as goal

pub returns : goal.returns
returns c = denied_changes_nothing
