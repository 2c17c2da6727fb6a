-- When a site's reply is true, by its epoch and by the session of the user in that state.
use Rattle.std.specs.Prelude.{◌≡◌, ◌≢◌, ℕ, ◌+◌, ◌<◌, IsFalse, ◌⊎◌}
use Rattle.rs_base.specs.declared.txn.Origin.{Origin}
use Rattle.rs_base.specs.declared.reply.Reply.{Reply}
use Rattle.rs_base.specs.declared.reply.Reply.TheVariants as replies
use Rattle.rs_session.specs.declared.session.Session.{Session}
use Rattle.rs_session.specs.Sessions.{session_of, last_is_answered}
use Rattle.rs_site.specs.State.{SiteState}

-- the number is above the next one, or is the next one while the last request has no reply
abbrev pub IsAhead : Session → ℕ → Type 0
IsAhead session number = (session.last + 1 < number) ⊎ ((number ≡ session.last + 1) × IsFalse (last_is_answered session))

-- Nothing fails, and nothing is shown, in this stage. What is done, denied or has no parse is stated by other laws.
abbrev pub IsTrueReply : SiteState → Origin → Reply → Type 0
IsTrueReply site origin (replies.Done answered) = Unit {0}
IsTrueReply site origin (replies.Denied cause) = Unit {0}
IsTrueReply site origin (replies.Failed reason) = ⊥
IsTrueReply site origin (replies.Shown lines) = ⊥
IsTrueReply site origin (replies.Syntax offset) = Unit {0}
IsTrueReply site origin (replies.OldEpoch epoch) = (epoch ≡ site.who.epoch) × (origin.epoch ≢ site.who.epoch)
IsTrueReply site origin (replies.OldRequest last) = (origin.epoch ≡ site.who.epoch)
    × (last ≡ (session_of origin.user site.desk.sessions).last) × (origin.number < last)
IsTrueReply site origin (replies.Gap last) = (origin.epoch ≡ site.who.epoch)
    × (last ≡ (session_of origin.user site.desk.sessions).last)
    × IsAhead (session_of origin.user site.desk.sessions) origin.number
