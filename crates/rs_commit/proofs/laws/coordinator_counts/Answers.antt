use Rattle.rs_commit.proofs.Counting.{coordinator_counts}
use Rattle.rs_commit.proofs.laws.coordinator_counts.Goals as goal

pub returns : goal.returns
returns c = coordinator_counts
