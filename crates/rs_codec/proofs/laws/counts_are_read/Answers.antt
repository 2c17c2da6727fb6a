use Rattle.rs_codec.proofs.Readers.{count_read, int_read, text_read}
use Rattle.rs_codec.proofs.laws.counts_are_read.Goals as goal

pub returns-clause-count : goal.returns-clause-count
returns-clause-count c = count_read

pub returns-clause-int : goal.returns-clause-int
returns-clause-int c = int_read

pub returns-clause-text : goal.returns-clause-text
returns-clause-text c = text_read
