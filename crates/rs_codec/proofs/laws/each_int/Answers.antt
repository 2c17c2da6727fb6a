use Rattle.rs_codec.proofs.Encodings.{each_int}
use Rattle.rs_codec.proofs.laws.each_int.Goals as goal

pub returns : goal.returns
returns c = each_int
