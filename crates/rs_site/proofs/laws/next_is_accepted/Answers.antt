use Rattle.rs_site.proofs.Acceptance.{next_is_accepted}
use Rattle.rs_site.proofs.laws.next_is_accepted.Goals as goal

pub returns : goal.returns
returns c = next_is_accepted
