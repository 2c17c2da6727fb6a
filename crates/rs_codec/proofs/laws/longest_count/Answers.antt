use Rattle.rs_codec.proofs.Writers.{length_count}
use Rattle.rs_codec.proofs.laws.longest_count.Goals as goal

pub returns : goal.returns
returns c = length_count
