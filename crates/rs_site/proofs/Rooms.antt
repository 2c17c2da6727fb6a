-- The text of an ask that is read from a datagram is short.
use Rattle.std.proofs.Common.{List, ℕ}
use Rattle.rs_msg.specs.declared.message.Message.{Message}
use Rattle.rs_msg.specs.declared.message.Message.TheVariants as messages
use Rattle.rs_msg.specs.Limits.{HasRoom}
use Rattle.rs_msg.specs.Message.{IsMessage}

pub has_room : (bytes : List ℕ) (message : Message) → IsMessage bytes message → HasRoom message
has_room bytes (messages.Ask ask) (fields, is, e) = is.within.text
has_room bytes (messages.Reply reply) is = tt
