-- Laws of every step of a site, whatever its state.
use Rattle.std.specs.Prelude.{◌≡◌, ℕ, ◌+◌, ◌<◌, ◌≤◌, true, List, [], ◌∷◌, map, Option, Some, None, IsTrue, ◌⊎◌}
use Rattle.rs_ast.specs.declared.stmt.Stmt.{Stmt}
use Rattle.rs_base.specs.declared.peer.Peer.{Peer}
use Rattle.rs_base.specs.declared.reply.Reply.{Reply}
use Rattle.rs_base.specs.declared.reply.Reply.TheVariants as replies
use Rattle.rs_mean.specs.Meaning.{meaning}
use Rattle.rs_msg.specs.declared.message.Ask.{Ask}
use Rattle.rs_msg.specs.declared.message.Message.TheVariants as messages
use Rattle.rs_msg.specs.Message.{IsMessage}
use Rattle.rs_site.specs.Statement.{statement_of, offset_replied}
use Rattle.rs_course.specs.declared.input.Input.{Input}
use Rattle.rs_course.specs.declared.input.Input.TheVariants as inputs
use Rattle.rs_course.specs.declared.outs.Decided.{Decided}
use Rattle.rs_course.specs.declared.outs.Outs.{Outs}
use Rattle.rs_site.specs.declared.desk.Desk.{Desk}
use Rattle.rs_site.specs.Asking.{execution_of, last_number, origin_of, reply_of, reply_with}
use Rattle.rs_site.specs.Planned.{Committed, Planned}
use Rattle.rs_session.specs.Sessions.{session_of, last_is_answered}
use Rattle.rs_site.specs.State.{SiteState, next_txn}
use Rattle.rs_site.specs.Step.{planned_step, site_step}

-- the site after a step, and the step's output
abbrev pub after : SiteState → Input → SiteState
after site input = (site_step site input).0

abbrev pub outs_of : SiteState → Input → Outs
outs_of site input = (site_step site input).1

-- the number of the user's last accepted request
abbrev pub last_of : List ℕ → Desk → ℕ
last_of user desk = (session_of user desk.sessions).last

-- each user's last number, and the count of transactions, never fall
abbrev pub NumbersRise : Type 0
NumbersRise = (site : SiteState) (input : Input) → ((user : List ℕ) → last_of user site.desk ≤ last_of user (after site input).desk)
    × (site.desk.begun ≤ (after site input).desk.begun)

-- an ask whose number isn't above the user's last changes nothing, and nothing is committed
abbrev pub RepeatsRunNothing : Type 0
RepeatsRunNothing = (site : SiteState) (from : Peer) (bytes : List ℕ) (ask : Ask) → IsMessage bytes (messages.Ask ask)
    → ask.number ≤ last_of ask.user site.desk
    → (after site (inputs.Datagram from bytes) ≡ site) × ((outs_of site (inputs.Datagram from bytes)).decided ≡ [])

-- an ask of the user's last request, in the site's epoch, gets the stored reply, and changes nothing
abbrev pub KeptReplyIsRepeated : Type 0
KeptReplyIsRepeated = (site : SiteState) (from : Peer) (bytes : List ℕ) (ask : Ask) (reply : Reply)
    → IsMessage bytes (messages.Ask ask)
    → ask.part ≡ 0 → ask.epoch ≡ site.who.epoch → ask.number ≡ last_of ask.user site.desk
    → (session_of ask.user site.desk.sessions).reply ≡ Some reply
    → site_step site (inputs.Datagram from bytes) ≡ (site, reply_with from (origin_of site.who ask) 0 reply)

-- The entry is of the site's next transaction, and the site's database is the meaning of its statement.
pub record IsNextCommit (site : SiteState) (entry : Decided) (new : SiteState) : Type 0 where
  pub txn : entry.txn ≡ next_txn site.who site.desk
  pub begun : new.desk.begun ≡ site.desk.begun + 1
  pub stmt : Stmt
  pub spelled : statement_of entry.text ≡ Some stmt
  pub database : new.held.database ≡ (meaning site.held.database (execution_of entry.txn entry.origin stmt)).0

-- a step commits nothing, and leaves the database as it was, or it commits one entry
abbrev pub CommitsAreMeaning : Type 0
CommitsAreMeaning = (site : SiteState) (input : Input)
    → (((outs_of site input).decided ≡ []) × ((after site input).held.database ≡ site.held.database))
    ⊎ ((entry : Decided) × ((outs_of site input).decided ≡ entry ∷ []) × IsNextCommit site entry (after site input))

-- What the step of a plan reports as committed is what it appends to the log, which is forced if there is any.
pub record IsLogged (planned : Planned) : Type 0 where
  pub appended : planned.items ≡ map Committed planned.outs.decided
  pub forced : (planned.outs.decided ≡ []) ⊎ (planned.forces ≡ true)

-- so it is of each step
abbrev pub DecidedAreLogged : Type 0
DecidedAreLogged = (site : SiteState) (input : Input) → IsLogged (planned_step site input)

-- no step runs a stored section: there are none so far
abbrev pub NoSectionRuns : Type 0
NoSectionRuns = (site : SiteState) (input : Input) → (outs_of site input).runs ≡ []

-- The ask is of the first part of the user's next request in the site's epoch, and the last one is answered.
pub record IsNextAsk (site : SiteState) (ask : Ask) : Type 0 where
  pub part : ask.part ≡ 0
  pub epoch : ask.epoch ≡ site.who.epoch
  pub number : ask.number ≡ last_of ask.user site.desk + 1
  pub may : IsTrue (last_is_answered (session_of ask.user site.desk.sessions))

-- The ask got this one reply, which its user's session stores.
pub record IsAnswered (site : SiteState) (from : Peer) (ask : Ask) (reply : Reply) (new : SiteState) (outs : Outs) : Type 0 where
  pub reported : outs.replies ≡ (reply_with from (origin_of site.who ask) 0 reply).replies
  pub kept : session_of ask.user new.desk.sessions ≡ record { last = ask.number; reply = Some reply }

-- A text without a supported statement is answered so, and nothing is committed. A statement is committed, and its reply is its outcome.
abbrev pub IsAcceptedAs : SiteState → Peer → Ask → Option Stmt → SiteState → Outs → Type 0
IsAcceptedAs site from ask None new outs = IsAnswered site from ask (replies.Syntax (offset_replied ask.text)) new outs
    × (outs.decided ≡ [])
IsAcceptedAs site from ask (Some stmt) new outs =
    IsAnswered site from ask (reply_of (meaning site.held.database (execution_of (next_txn site.who site.desk) (origin_of site.who ask) stmt)).1) new outs
    × (outs.decided ≡ (record { txn = next_txn site.who site.desk; origin = origin_of site.who ask; text = ask.text }) ∷ [])

-- the next ask of a user is accepted, while the epoch has a transaction left
abbrev pub NextIsAccepted : Type 0
NextIsAccepted = (site : SiteState) (from : Peer) (bytes : List ℕ) (ask : Ask) → IsMessage bytes (messages.Ask ask)
    → IsNextAsk site ask → site.desk.begun < last_number
    → IsAcceptedAs site from ask (statement_of ask.text) (after site (inputs.Datagram from bytes)) (outs_of site (inputs.Datagram from bytes))
