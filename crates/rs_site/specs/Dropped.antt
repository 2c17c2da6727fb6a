-- Datagrams that a site drops, whatever its sessions and transactions: they change nothing, and nothing is sent.
use Rattle.std.specs.Prelude.{◌≡◌, ℕ, ◌<◌, List, length, Some, IsTrue, ◌⊎◌}
use Rattle.rs_base.specs.declared.reply.Reply.{Reply}
use Rattle.rs_msg.specs.declared.message.Ask.{Ask}
use Rattle.rs_msg.specs.declared.message.Message.{Message}
use Rattle.rs_msg.specs.declared.message.Message.TheVariants as messages
use Rattle.rs_msg.specs.Message.{IsMessage}
use Rattle.rs_site.specs.declared.desk.Desk.{Desk}
use Rattle.rs_site.specs.declared.who.Who.{Who}
use Rattle.rs_site.specs.Asking.{origin_of}
use Rattle.rs_session.specs.Parts.{has_part}
use Rattle.rs_session.specs.Sessions.{session_of}
use Rattle.rs_site.specs.State.{SiteState}
use Rattle.rs_site.specs.Step.{most_bytes}

-- a further part that the site has: of the stored reply to the user's last request in its epoch
pub record HasFurther (who : Who) (desk : Desk) (ask : Ask) : Type 0 where
  pub epoch : ask.epoch ≡ who.epoch
  pub number : ask.number ≡ (session_of ask.user desk.sessions).last
  pub reply : Reply
  pub kept : (session_of ask.user desk.sessions).reply ≡ Some reply
  pub part : IsTrue (has_part (origin_of who ask) reply ask.part)

-- No rule is for the message: a reply, or an ask of a further part that the site doesn't have.
abbrev pub FitsNoRule : SiteState → Message → Type 0
FitsNoRule site (messages.Reply part) = Unit {0}
FitsNoRule site (messages.Ask ask) = (0 < ask.part) × (HasFurther site.who site.desk ask → ⊥)

-- it is too long, no message, or one that no rule is for
abbrev pub IsDropped : SiteState → List ℕ → Type 0
IsDropped site bytes = (most_bytes < length bytes)
    ⊎ ((message : Message) → IsMessage bytes message → ⊥)
    ⊎ ((message : Message) × IsMessage bytes message × FitsNoRule site message)
