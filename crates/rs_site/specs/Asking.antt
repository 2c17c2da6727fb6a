-- A site's handling of an ask: the plan of its step.
use Rattle.std.specs.Prelude.{ℕ, ◌+◌, Bool, ◌&&◌, ◌==◌, nat_lt, true, List, [], ◌∷◌, Option, Some, None}
use Rattle.rs_base.specs.declared.peer.Peer.{Peer}
use Rattle.rs_base.specs.declared.txn.Txn.{Txn}
use Rattle.rs_base.specs.declared.txn.Origin.{Origin}
use Rattle.rs_base.specs.declared.reply.Reply.{Reply}
use Rattle.rs_base.specs.declared.reply.Reply.TheVariants as replies
use Rattle.rs_ast.specs.declared.stmt.Stmt.{Stmt}
use Rattle.rs_site.specs.Statement.{statement_of, offset_replied}
use Rattle.rs_mean.specs.declared.execution.Execution.{Execution}
use Rattle.rs_mean.specs.Database.{Database}
use Rattle.rs_mean.specs.Meaning.{meaning}
use Rattle.rs_mean.specs.Outcome.{Outcome, Done, Denied, Shown}
use Rattle.rs_msg.specs.declared.message.Ask.{Ask}
use Rattle.rs_session.specs.declared.session.Session.{Session}
use Rattle.rs_course.specs.declared.outs.Decided.{Decided}
use Rattle.rs_course.specs.declared.outs.Outs.{Outs}
use Rattle.rs_site.specs.declared.desk.Desk.{Desk}
use Rattle.rs_site.specs.declared.who.Who.{Who}
use Rattle.rs_session.specs.Sessions.{session_of, with_session, last_is_answered}
use Rattle.rs_course.specs.Outs.{no_outs}
use Rattle.rs_site.specs.Planned.{Committed, Planned, sending, idle, and_then, when}
use Rattle.rs_site.specs.State.{SiteState, next_txn}
use Rattle.rs_session.specs.Parts.{has_part}

---- replies

-- one part of a reply is sent to a peer
abbrev pub reply_with : Peer → Origin → ℕ → Reply → Outs
reply_with to origin part reply = record no_outs {
  replies = (record { peer = to; origin = origin; part = part; reply = reply }) ∷ [];
}

-- the site stays, and this part of a reply goes out
abbrev pub replying : Peer → Origin → ℕ → Reply → SiteState → Planned
replying from origin part reply site = sending site (reply_with from origin part reply)

-- the stored reply is sent again, if there is one, and it has this part
abbrev pub repeated : SiteState → Peer → Origin → ℕ → Option Reply → Planned
repeated site from origin part None = idle site
repeated site from origin part (Some reply) = when (has_part origin reply part) (replying from origin part reply site) (idle site)

-- it is stored that the user's request was accepted, and its reply
abbrev pub remembering : Desk → Origin → Reply → Desk
remembering desk origin reply = record desk { sessions = with_session origin.user (record { last = origin.number; reply = Some reply }) desk.sessions }

-- the site stores that it accepted this request, and its reply
abbrev pub with_reply : Origin → Reply → SiteState → SiteState
with_reply origin reply site = record site { desk = remembering site.desk origin reply }

-- it does so, and the reply goes out
abbrev pub answering : Peer → Origin → Reply → SiteState → Planned
answering from origin reply site = replying from origin 0 reply (with_reply origin reply site)

---- an accepted ask

-- the execution of a statement by this transaction for the user of this request
abbrev pub execution_of : Txn → Origin → Stmt → Execution
execution_of txn origin stmt = record { txn = txn; user = origin.user; site = origin.site; stmt = stmt }

-- The reply that reports an outcome. No execution shows lines so far.
abbrev pub reply_of : Outcome → Reply
reply_of (Done given) = replies.Done given
reply_of (Denied cause) = replies.Denied cause
reply_of Shown = replies.Shown []

-- a transaction of the site was begun, and the database is this then
abbrev pub with_change : Database → SiteState → SiteState
with_change database site = record site { desk = record site.desk { begun = site.desk.begun + 1 }; held = record { database = database } }

-- an execution of the site's next transaction is committed, which leaves this database
abbrev pub committing : Decided → Database → SiteState → Planned
committing entry database site = record {
  items = Committed entry ∷ [];
  forces = true;
  after = with_change database site;
  outs = record no_outs { decided = entry ∷ [] };
}

-- the output of a committed execution: its entry, and the reply
abbrev pub reported : Peer → Origin → List ℕ → Txn → Reply → Outs
reported from origin text txn reply =
    record (reply_with from origin 0 reply) { decided = (record { txn = txn; origin = origin; text = text }) ∷ [] }

-- The execution is committed, and then its outcome is the reply.
abbrev pub executed_by : SiteState → Peer → Origin → List ℕ → Execution → Planned
executed_by site from origin text execution =
    let m = meaning site.held.database execution in
    and_then (committing (record { txn = execution.txn; origin = origin; text = text }) m.0 site) (answering from origin (reply_of m.1))

-- the statement is executed by the next transaction
abbrev pub executed : SiteState → Peer → Origin → List ℕ → Stmt → Planned
executed site from origin text stmt =
    executed_by site from origin text (execution_of (next_txn site.who site.desk) origin stmt)

-- the number of the last transaction of an epoch
abbrev pub last_number : ℕ
last_number = 18446744073709551615

-- the text has no supported statement, and the reply carries this byte offset
abbrev pub no_request : SiteState → Peer → Origin → ℕ → Planned
no_request site from origin offset = answering from origin (replies.Syntax offset) site

-- A text without a supported statement is answered by its offset. A statement for which the epoch has no transaction left is dropped.
abbrev pub accepted_as : SiteState → Peer → Origin → List ℕ → Option Stmt → Planned
accepted_as site from origin text None = no_request site from origin (offset_replied text)
accepted_as site from origin text (Some stmt) = when (site.desk.begun == last_number) (idle site) (executed site from origin text stmt)

abbrev pub accepted : SiteState → Peer → Origin → List ℕ → Planned
accepted site from origin text = accepted_as site from origin text (statement_of text)

-- ---- by the session of the user

abbrev pub refused : SiteState → Peer → Origin → Reply → Planned
refused site from origin reply = replying from origin 0 reply site

-- the number is the one after the session's last, and the last request is answered
abbrev pub is_next : ℕ → Session → Bool
is_next number session = number == session.last + 1 && last_is_answered session

-- In the site's epoch: a number below the last is old. The last gets its reply again, whatever its text. The next one is
-- accepted, once the last is answered. All else is a gap.
abbrev pub by_number : SiteState → Peer → Origin → List ℕ → Session → Planned
by_number site from origin text session =
    when (nat_lt origin.number session.last) (refused site from origin (replies.OldRequest session.last))
    (when (origin.number == session.last) (repeated site from origin 0 session.reply)
    (when (is_next origin.number session) (accepted site from origin text)
    (refused site from origin (replies.Gap session.last))))

-- the first part of a reply is asked for
abbrev pub on_first : SiteState → Peer → Origin → List ℕ → Planned
on_first site from origin text =
    when (origin.epoch == site.who.epoch) (by_number site from origin text (session_of origin.user site.desk.sessions))
    (refused site from origin (replies.OldEpoch site.who.epoch))

-- A further part is asked for: of the reply to the user's last request in this epoch.
abbrev pub on_further : SiteState → Peer → Origin → ℕ → Planned
on_further site from origin part =
    when (origin.epoch == site.who.epoch && origin.number == (session_of origin.user site.desk.sessions).last)
    (repeated site from origin part (session_of origin.user site.desk.sessions).reply)
    (idle site)

abbrev pub origin_of : Who → Ask → Origin
origin_of who ask = record { site = who.me; user = ask.user; epoch = ask.epoch; number = ask.number }

abbrev pub on_ask : SiteState → Peer → Ask → Planned
on_ask site from ask =
    when (ask.part == 0) (on_first site from (origin_of site.who ask) ask.text)
    (on_further site from (origin_of site.who ask) ask.part)
