use Rattle.rs_codec.proofs.Encodings.{length_of_text}
use Rattle.rs_codec.proofs.laws.length_of_text.Goals as goal

pub returns : goal.returns
returns c = length_of_text
