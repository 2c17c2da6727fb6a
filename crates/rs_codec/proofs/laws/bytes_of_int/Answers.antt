use Rattle.rs_codec.specs.Encoding.{count_of}
use Rattle.rs_codec.proofs.Encodings.{bytes_of_count}
use Rattle.rs_codec.proofs.laws.bytes_of_int.Goals as goal

pub returns : goal.returns
returns c = λ bytes z p. bytes_of_count bytes (count_of z) p
