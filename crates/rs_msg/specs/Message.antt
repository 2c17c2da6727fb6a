-- The encoding of messages: the byte 0x52, a byte for the kind, the fields, and nothing after them.
--     1 Ask      user (a text), epoch (four bytes), number (eight), part (four), text (a text)
--     2 Reply    origin, part (four bytes), parts (four), bytes (a text)
-- where an origin is its site (a byte), user (a text), epoch (four bytes) and number (eight). Numbers are big-endian, and
-- a text is the count of its bytes, then the bytes. A message beyond the limits has no encoding.
use Rattle.std.specs.Prelude.{◌≡◌, ℕ, List, ◌∷◌, ◌++◌}
use Rattle.std.specs.Int.{w32, w64, to_be_bytes}
use Rattle.rs_base.specs.declared.txn.Origin.{Origin}
use Rattle.rs_codec.specs.Encoding.{IsText}
use Rattle.rs_msg.specs.declared.message.Ask.{Ask}
use Rattle.rs_msg.specs.declared.message.ReplyPart.{ReplyPart}
use Rattle.rs_msg.specs.declared.message.Message.{Message}
use Rattle.rs_msg.specs.declared.message.Message.TheVariants as messages
use Rattle.rs_msg.specs.Limits.{IsAskWithin, IsOriginWithin, IsReplyWithin}

-- the byte that each message begins with
abbrev pub magic : ℕ
magic = 82

pub record IsAsk (bytes : List ℕ) (ask : Ask) : Type 0 where
  pub within : IsAskWithin ask
  pub user : List ℕ
  pub user_is : IsText user ask.user
  pub text : List ℕ
  pub text_is : IsText text ask.text
  pub parts : bytes ≡ user ++ to_be_bytes w32 ask.epoch ++ to_be_bytes w64 ask.number ++ to_be_bytes w32 ask.part ++ text

pub record IsOrigin (bytes : List ℕ) (origin : Origin) : Type 0 where
  pub within : IsOriginWithin origin
  pub user : List ℕ
  pub user_is : IsText user origin.user
  pub parts : bytes ≡ origin.site ∷ user ++ to_be_bytes w32 origin.epoch ++ to_be_bytes w64 origin.number

pub record IsReply (bytes : List ℕ) (reply : ReplyPart) : Type 0 where
  pub within : IsReplyWithin reply
  pub origin : List ℕ
  pub origin_is : IsOrigin origin reply.origin
  pub body : List ℕ
  pub body_is : IsText body reply.bytes
  pub parts : bytes ≡ origin ++ to_be_bytes w32 reply.part ++ to_be_bytes w32 reply.parts ++ body

-- a whole datagram
abbrev pub IsMessage : List ℕ → Message → Type 0
IsMessage bytes (messages.Ask ask) = (fields : List ℕ) × IsAsk fields ask × (bytes ≡ magic ∷ 1 ∷ fields)
IsMessage bytes (messages.Reply reply) = (fields : List ℕ) × IsReply fields reply × (bytes ≡ magic ∷ 2 ∷ fields)
