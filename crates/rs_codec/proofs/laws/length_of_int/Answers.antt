use Rattle.rs_base.specs.Sizes.{count_of}
use Rattle.rs_codec.proofs.Encodings.{length_of_count}
use Rattle.rs_codec.proofs.laws.length_of_int.Goals as goal

pub returns : goal.returns
returns c = λ bytes z p. length_of_count bytes (count_of z) p
