-- The parts of a text, and the message that carries one part of a printed reply to a peer.
use Rattle.std.specs.Prelude.{ℕ, ◌*◌, Bool, ◌&&◌, nat_lt, List, length, take, drop, Option, Some, None, if◌then◌else◌}
use Rattle.std.specs.Int.{div_ceil}
use Rattle.rs_base.specs.declared.txn.Origin.{Origin}
use Rattle.rs_base.specs.declared.reply.Reply.{Reply}
use Rattle.rs_print.specs.Replies.{printed_reply}
use Rattle.rs_msg.specs.declared.message.Message.{Message}
use Rattle.rs_msg.specs.declared.message.Message.TheVariants as messages
use Rattle.rs_session.specs.declared.told.Told.{Told}

-- the size of each part of a reply but the last, in bytes
abbrev pub part_size : ℕ
part_size = 30000

-- the printed reply has this part, counted from 0
abbrev pub has_part : Origin → Reply → ℕ → Bool
has_part origin reply part = nat_lt (part * part_size) (length (printed_reply origin reply))

-- the number of parts of a text: one for each 30,000 bytes, the last may be short
abbrev pub parts_of : List ℕ → ℕ
parts_of text = div_ceil (length text) part_size

-- the bytes of a part of a text, counted from 0
abbrev pub part_bytes : List ℕ → ℕ → List ℕ
part_bytes text part = take part_size (drop (part * part_size) text)

-- the number of parts is below this, so that four bytes hold it
abbrev pub parts_limit : ℕ
parts_limit = 4294967296

-- a part of a reply's text, as a message
abbrev pub part_message : Origin → ℕ → List ℕ → Message
part_message origin part text = messages.Reply (record { origin = origin; part = part; parts = parts_of text; bytes = part_bytes text part })

-- the whole text that the part belongs to
abbrev pub reply_text : Told → List ℕ
reply_text reported = printed_reply reported.origin reported.reply

-- The message of the part. There is none if the printed reply doesn't have this part, or has too many parts.
abbrev pub message_of_part : Told → Option Message
message_of_part reported =
    if has_part reported.origin reported.reply reported.part && nat_lt (parts_of (reply_text reported)) parts_limit
    then Some (part_message reported.origin reported.part (reply_text reported))
    else None
