use Rattle.rs_site.proofs.Lawful.{commits_are_meaning}
use Rattle.rs_site.proofs.laws.commits_are_meaning.Goals as goal

pub returns : goal.returns
returns c = commits_are_meaning
