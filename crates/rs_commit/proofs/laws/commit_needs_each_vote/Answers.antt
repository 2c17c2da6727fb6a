use Rattle.rs_commit.proofs.LawLemmas.{commit_needs_each_vote}
use Rattle.rs_commit.proofs.laws.commit_needs_each_vote.Goals as goal

pub returns : goal.returns
returns c = commit_needs_each_vote
