use Rattle.rs_codec.proofs.Encodings.{bytes_of_text}
use Rattle.rs_codec.proofs.laws.bytes_of_text.Goals as goal

pub returns : goal.returns
returns c = bytes_of_text
