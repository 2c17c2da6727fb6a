use Rattle.rs_codec.proofs.Encodings.{one_text}
use Rattle.rs_codec.proofs.laws.one_text.Goals as goal

pub returns : goal.returns
returns c = one_text
