use Rattle.rs_msg.proofs.Whole.{written_message}
use Rattle.rs_msg.proofs.laws.each_message.Goals as goal

pub returns : goal.returns
returns c = written_message
