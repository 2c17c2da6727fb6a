use Rattle.rs_msg.proofs.Whole.{written_read}
use Rattle.rs_msg.proofs.laws.written_is_read.Goals as goal

pub returns : goal.returns
returns c = written_read
