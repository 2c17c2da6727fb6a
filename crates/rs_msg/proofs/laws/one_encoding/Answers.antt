use Rattle.rs_msg.proofs.Whole.{once_message, one_message}
use Rattle.rs_msg.proofs.laws.one_encoding.Goals as goal

pub returns-clause-encoding : goal.returns-clause-encoding
returns-clause-encoding c = once_message

pub returns-clause-message : goal.returns-clause-message
returns-clause-message c = one_message
