-- The length of a message's encoding in bytes.
use Rattle.std.proofs.Common.{◌≡◌, ℕ, ◌+◌, ◌≤◌, List, ◌∷◌, ◌++◌, length, arith, length-append}
use Rattle.std.specs.Int.{w32, w64, to_be_bytes}
use Rattle.rs_base.specs.declared.txn.Origin.{Origin}
use Rattle.rs_codec.specs.Written.{count_bytes, text_bytes}
use Rattle.rs_codec.proofs.Writers.{length_count}
use Rattle.rs_msg.specs.declared.message.Ask.{Ask}
use Rattle.rs_msg.specs.declared.message.ReplyPart.{ReplyPart}
use Rattle.rs_msg.specs.declared.message.Message.TheVariants as messages
use Rattle.rs_msg.specs.Limits.{IsAskWithin, IsReplyWithin}
use Rattle.rs_msg.specs.Written.{ask_bytes, origin_bytes, reply_bytes, message_bytes}
use Rattle.rs_msg.proofs.Whole.{length_ident}

length_text : (text : List ℕ) → length (text_bytes text) ≤ 10 + length text
length_text text = omega (arith, length_count (length text), length-append (count_bytes (length text)) text)

-- the length of parts in a row
sum_3 : (a b c : List ℕ) → length (a ++ b ++ c) ≡ length a + length b + length c
sum_3 a b c = omega (arith, length-append (a ++ b) c, length-append a b)

sum_4 : (a b c d : List ℕ) → length (a ++ b ++ c ++ d) ≡ length a + length b + length c + length d
sum_4 a b c d = omega (arith, length-append (a ++ b ++ c) d, sum_3 a b c)

sum_5 : (a b c d e : List ℕ) → length (a ++ b ++ c ++ d ++ e) ≡ length a + length b + length c + length d + length e
sum_5 a b c d e = omega (arith, length-append (a ++ b ++ c ++ d) e, sum_4 a b c d)

length_ask : (ask : Ask) → length (ask_bytes ask) ≡ length (text_bytes ask.user) + 4 + 8 + 4 + length (text_bytes ask.text)
unfolding ask_bytes
length_ask ask = sum_5 (text_bytes ask.user) (to_be_bytes w32 ask.epoch) (to_be_bytes w64 ask.number) (to_be_bytes w32 ask.part) (text_bytes ask.text)

pub ask_fits : (ask : Ask) → IsAskWithin ask → length (message_bytes (messages.Ask ask)) ≤ 32768
ask_fits ask w = omega (arith, length_ask ask, length_text ask.user, length_text ask.text, length_ident ask.user w.user, w.text)

length_origin : (origin : Origin) → length (origin_bytes origin) ≡ length (origin.site ∷ text_bytes origin.user) + 4 + 8
unfolding origin_bytes
length_origin origin = sum_3 (origin.site ∷ text_bytes origin.user) (to_be_bytes w32 origin.epoch) (to_be_bytes w64 origin.number)

length_reply : (reply : ReplyPart) → length (reply_bytes reply) ≡ length (origin_bytes reply.origin) + 4 + 4 + length (text_bytes reply.bytes)
unfolding reply_bytes
length_reply reply = sum_4 (origin_bytes reply.origin) (to_be_bytes w32 reply.part) (to_be_bytes w32 reply.parts) (text_bytes reply.bytes)

pub reply_fits : (reply : ReplyPart) → IsReplyWithin reply → length reply.bytes ≤ 30000 → length (message_bytes (messages.Reply reply)) ≤ 32768
reply_fits reply w within =
    omega (arith, length_reply reply, length_origin reply.origin, length_text reply.origin.user, length_text reply.bytes, length_ident reply.origin.user w.origin.user, within)
