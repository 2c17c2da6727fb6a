use Rattle.rs_codec.proofs.Writers.{written_count, written_int, written_text}
use Rattle.rs_codec.proofs.laws.written.Goals as goal

pub returns-clause-count : goal.returns-clause-count
returns-clause-count c = written_count

pub returns-clause-int : goal.returns-clause-int
returns-clause-int c = written_int

pub returns-clause-text : goal.returns-clause-text
returns-clause-text c = written_text
