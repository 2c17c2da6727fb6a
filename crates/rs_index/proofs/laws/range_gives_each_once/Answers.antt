use Rattle.rs_index.proofs.LawLemmas.{gives_each_once}
use Rattle.rs_index.proofs.laws.range_gives_each_once.Goals as goal

pub returns : goal.returns
returns c = gives_each_once
