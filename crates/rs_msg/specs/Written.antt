-- The encoding of a message that is within its limits, as a function of it.
use Rattle.std.specs.Prelude.{ℕ, List, ◌∷◌, ◌++◌}
use Rattle.std.specs.Int.{w32, w64, to_be_bytes}
use Rattle.rs_base.specs.declared.txn.Origin.{Origin}
use Rattle.rs_codec.specs.Written.{text_bytes}
use Rattle.rs_msg.specs.declared.message.Ask.{Ask}
use Rattle.rs_msg.specs.declared.message.ReplyPart.{ReplyPart}
use Rattle.rs_msg.specs.declared.message.Message.{Message}
use Rattle.rs_msg.specs.declared.message.Message.TheVariants as messages
use Rattle.rs_msg.specs.Message.{magic}

unfoldable pub ask_bytes : Ask → List ℕ
ask_bytes ask = text_bytes ask.user ++ to_be_bytes w32 ask.epoch ++ to_be_bytes w64 ask.number ++ to_be_bytes w32 ask.part ++ text_bytes ask.text

unfoldable pub origin_bytes : Origin → List ℕ
origin_bytes origin = origin.site ∷ text_bytes origin.user ++ to_be_bytes w32 origin.epoch ++ to_be_bytes w64 origin.number

unfoldable pub reply_bytes : ReplyPart → List ℕ
reply_bytes reply = origin_bytes reply.origin ++ to_be_bytes w32 reply.part ++ to_be_bytes w32 reply.parts ++ text_bytes reply.bytes

abbrev pub message_bytes : Message → List ℕ
message_bytes (messages.Ask ask) = magic ∷ 1 ∷ ask_bytes ask
message_bytes (messages.Reply reply) = magic ∷ 2 ∷ reply_bytes reply
