use Rattle.rs_codec.proofs.Encodings.{each_count}
use Rattle.rs_codec.proofs.laws.each_count.Goals as goal

pub returns : goal.returns
returns c = each_count
