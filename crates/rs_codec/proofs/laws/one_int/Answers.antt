use Rattle.rs_codec.proofs.Encodings.{one_int}
use Rattle.rs_codec.proofs.laws.one_int.Goals as goal

pub returns : goal.returns
returns c = one_int
