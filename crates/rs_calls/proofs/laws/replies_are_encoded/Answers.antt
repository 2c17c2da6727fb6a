use Rattle.rs_calls.proofs.Replies.{call_reply_is}
use Rattle.rs_calls.proofs.laws.replies_are_encoded.Goals as goal

pub returns : goal.returns
returns c = call_reply_is
