use Rattle.rs_msg.proofs.Whole.{message_read}
use Rattle.rs_msg.proofs.laws.read_is_encoded.Goals as goal

pub returns : goal.returns
returns c = message_read
