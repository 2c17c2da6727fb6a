use Rattle.rs_codec.proofs.Writers.{once_count, once_int, once_text}
use Rattle.rs_codec.proofs.laws.encoded_once.Goals as goal

pub returns-clause-count : goal.returns-clause-count
returns-clause-count c = once_count

pub returns-clause-int : goal.returns-clause-int
returns-clause-int c = once_int

pub returns-clause-text : goal.returns-clause-text
returns-clause-text c = once_text
