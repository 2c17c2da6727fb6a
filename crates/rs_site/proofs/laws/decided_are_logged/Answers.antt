use Rattle.rs_site.proofs.Lawful.{decided_are_logged}
use Rattle.rs_site.proofs.laws.decided_are_logged.Goals as goal

pub returns : goal.returns
returns c = decided_are_logged
