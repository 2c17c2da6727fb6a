-- The message whose encoding the bytes are, or None: read from the left, field by field.
use Rattle.std.specs.Prelude.{ℕ, ◌==◌, ◌&&◌, nat_le, List, [], ◌∷◌, length, Option, Some, None, if◌then◌else◌}
use Rattle.rs_base.specs.Ident.{is_ident}
use Rattle.rs_base.specs.Reading.{◌>>=◌}
use Rattle.rs_base.specs.declared.txn.Origin.{Origin}
use Rattle.rs_codec.specs.Reader.{byte_at, u32_at, u64_at, text_at}
use Rattle.rs_msg.specs.declared.message.Ask.{Ask}
use Rattle.rs_msg.specs.declared.message.ReplyPart.{ReplyPart}
use Rattle.rs_msg.specs.declared.message.Message.{Message}
use Rattle.rs_msg.specs.declared.message.Message.TheVariants as messages
use Rattle.rs_msg.specs.Limits.{ask_limit}
use Rattle.rs_msg.specs.Message.{magic}

-- ---- fields

-- a text that is an identifier
unfoldable pub user_at : List ℕ → Option (List ℕ × List ℕ)
user_at bytes = do
  text ← text_at bytes
  if is_ident text.0 then Some text else None

-- a text of at most `limit` bytes
unfoldable pub short_text_at : ℕ → List ℕ → Option (List ℕ × List ℕ)
short_text_at limit bytes = do
  text ← text_at bytes
  if nat_le (length text.0) limit then Some text else None

-- a byte from 1 to 16
unfoldable pub site_at : List ℕ → Option (ℕ × List ℕ)
site_at bytes = do
  site ← byte_at bytes
  if nat_le 1 site.0 && nat_le site.0 16 then Some site else None

unfoldable pub origin_at : List ℕ → Option (Origin × List ℕ)
origin_at bytes = do
  site ← site_at bytes
  user ← user_at site.1
  epoch ← u32_at user.1
  number ← u64_at epoch.1
  Some (record { site = site.0; user = user.0; epoch = epoch.0; number = number.0 }, number.1)

-- ---- kinds

unfoldable pub ask_at : List ℕ → Option (Ask × List ℕ)
ask_at bytes = do
  user ← user_at bytes
  epoch ← u32_at user.1
  number ← u64_at epoch.1
  part ← u32_at number.1
  text ← short_text_at ask_limit part.1
  Some (record { user = user.0; epoch = epoch.0; number = number.0; part = part.0; text = text.0 }, text.1)

unfoldable pub reply_at : List ℕ → Option (ReplyPart × List ℕ)
reply_at bytes = do
  origin ← origin_at bytes
  part ← u32_at origin.1
  parts ← u32_at part.1
  body ← text_at parts.1
  Some (record { origin = origin.0; part = part.0; parts = parts.0; bytes = body.0 }, body.1)

-- ---- messages

abbrev pub as_ask : Ask × List ℕ → Option (Message × List ℕ)
as_ask ask = Some (messages.Ask ask.0, ask.1)

abbrev pub as_reply : ReplyPart × List ℕ → Option (Message × List ℕ)
as_reply reply = Some (messages.Reply reply.0, reply.1)

-- the fields of a message of this kind
abbrev pub fields_at : ℕ → List ℕ → Option (Message × List ℕ)
fields_at kind bytes = if kind == 1 then ask_at bytes >>= as_ask else (if kind == 2 then reply_at bytes >>= as_reply else None)

-- the kind and the fields
abbrev pub kind_at : List ℕ → Option (Message × List ℕ)
kind_at bytes = do
  kind ← byte_at bytes
  fields_at kind.0 kind.1

-- the first byte, the kind and the fields
unfoldable pub message_at : List ℕ → Option (Message × List ℕ)
message_at bytes = do
  first ← byte_at bytes
  if first.0 == magic then kind_at first.1 else None

-- the message, if no bytes are left after it
abbrev pub if_at_end : Message × List ℕ → Option Message
if_at_end (message, []) = Some message
if_at_end (message, b ∷ bytes) = None

unfoldable pub message_of : List ℕ → Option Message
message_of bytes = message_at bytes >>= if_at_end
