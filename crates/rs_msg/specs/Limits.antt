-- The limits of messages: those of the fields' types, and the longest text of a request.
use Rattle.std.specs.Prelude.{ℕ, ◌^◌, ◌<◌, ◌≤◌, length, IsTrue}
use Rattle.rs_base.specs.Ident.{is_ident}
use Rattle.rs_base.specs.declared.txn.Origin.{Origin}
use Rattle.rs_msg.specs.declared.message.Ask.{Ask}
use Rattle.rs_msg.specs.declared.message.ReplyPart.{ReplyPart}
use Rattle.rs_msg.specs.declared.message.Message.{Message}
use Rattle.rs_msg.specs.declared.message.Message.TheVariants as messages

-- the most bytes of a request's text
abbrev pub ask_limit : ℕ
ask_limit = 8192

pub record IsAskWithin (ask : Ask) : Type 0 where
  pub user : IsTrue (is_ident ask.user)
  pub epoch : ask.epoch < 2 ^ 32
  pub number : ask.number < 2 ^ 64
  pub part : ask.part < 2 ^ 32
  pub text : length ask.text ≤ ask_limit

pub record IsOriginWithin (origin : Origin) : Type 0 where
  pub site : (1 ≤ origin.site) × (origin.site ≤ 16)
  pub user : IsTrue (is_ident origin.user)
  pub epoch : origin.epoch < 2 ^ 32
  pub number : origin.number < 2 ^ 64

pub record IsReplyWithin (reply : ReplyPart) : Type 0 where
  pub origin : IsOriginWithin reply.origin
  pub part : reply.part < 2 ^ 32
  pub parts : reply.parts < 2 ^ 32
  pub bytes : length reply.bytes < 2 ^ 64

abbrev pub IsWithin : Message → Type 0
IsWithin (messages.Ask ask) = IsAskWithin ask
IsWithin (messages.Reply reply) = IsReplyWithin reply

-- the limit that the types don't guarantee: the length of a request's text
abbrev pub HasRoom : Message → Type 0
HasRoom (messages.Ask ask) = length ask.text ≤ ask_limit
HasRoom (messages.Reply reply) = Unit {0}
