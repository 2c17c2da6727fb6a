use Rattle.rs_codec.proofs.Encodings.{each_text}
use Rattle.rs_codec.proofs.laws.each_text.Goals as goal

pub returns : goal.returns
returns c = each_text
