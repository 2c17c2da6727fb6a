use Rattle.rs_commit.proofs.LawLemmas.{decision_stays}
use Rattle.rs_commit.proofs.laws.decision_stays.Goals as goal

pub returns : goal.returns
returns c = decision_stays
