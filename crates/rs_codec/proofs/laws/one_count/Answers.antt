use Rattle.rs_codec.proofs.Encodings.{one_count}
use Rattle.rs_codec.proofs.laws.one_count.Goals as goal

pub returns : goal.returns
returns c = one_count
