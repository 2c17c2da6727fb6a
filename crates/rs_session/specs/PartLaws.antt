-- Laws of the parts of texts, and of their messages.
use Rattle.std.specs.Prelude.{◌≡◌, ℕ, ◌≤◌, nat_lt, List, length, flat_map, Some}
use Rattle.std.specs.List.{range_with_len}
use Rattle.rs_base.specs.declared.txn.Origin.{Origin}
use Rattle.rs_base.specs.declared.reply.Reply.{Reply}
use Rattle.rs_print.specs.Replies.{printed_reply}
use Rattle.rs_msg.specs.declared.message.Message.{Message}
use Rattle.rs_msg.specs.Limits.{IsOriginWithin, IsWithin}
use Rattle.rs_msg.specs.Written.{message_bytes}
use Rattle.rs_session.specs.declared.told.Told.{Told}
use Rattle.rs_session.specs.Parts.{has_part}
use Rattle.rs_session.specs.Parts.{parts_of, part_bytes, message_of_part}

-- the parts of a text, one after the other, are the text
abbrev pub PartsAreText : Type 0
PartsAreText = (text : List ℕ) → flat_map (part_bytes text) (range_with_len 0 (parts_of text)) ≡ text

-- a printed reply has each part below the count of its parts, and no other
abbrev pub HasEachPart : Type 0
HasEachPart = (origin : Origin) (reply : Reply) (part : ℕ) → has_part origin reply part ≡ nat_lt part (parts_of (printed_reply origin reply))

-- the message of a part is within its limits
abbrev pub PartIsWithin : Type 0
PartIsWithin = (reported : Told) (message : Message) → IsOriginWithin reported.origin → message_of_part reported ≡ Some message → IsWithin message

-- the message of a part fits a datagram
abbrev pub PartFits : Type 0
PartFits = (reported : Told) (message : Message) → IsOriginWithin reported.origin → message_of_part reported ≡ Some message → length (message_bytes message) ≤ 32768
