use Rattle.rs_index.proofs.LawLemmas.{gives_satisfying}
use Rattle.rs_index.proofs.laws.range_gives_satisfying.Goals as goal

pub returns : goal.returns
returns c = gives_satisfying
