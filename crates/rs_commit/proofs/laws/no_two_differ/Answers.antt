use Rattle.rs_commit.proofs.LawLemmas.{no_two_differ}
use Rattle.rs_commit.proofs.laws.no_two_differ.Goals as goal

pub returns : goal.returns
returns c = no_two_differ
