-- The report explains the events: all committed executions are in one serial history, exactly once and in real-time order;
-- each reported answer is its meaning over the database of the executions before it; each site stores what the history
-- makes of it; each refusal is true.
use Rattle.std.specs.Prelude.{◌≡◌, ◌≢◌, ℕ, ◌+◌, ◌<◌, ◌≤◌, List, [], ◌∷◌, ◌++◌, length, take, Some, None}
use Rattle.std.specs.List.{slice_get, Contains}
use Rattle.rs_base.specs.declared.lock.Resource.{Resource}
use Rattle.rs_base.specs.declared.txn.Origin.{Origin}
use Rattle.rs_base.specs.declared.reply.Denial.{Denial}
use Rattle.rs_base.specs.declared.reply.Reply.{Reply}
use Rattle.rs_base.specs.declared.reply.Reply.TheVariants as replies
use Rattle.rs_mean.specs.Database.{IsInOrder}
use Rattle.rs_mean.specs.Expected.{expected}
use Rattle.rs_mean.specs.Outcome.{Outcome, Denied}
use Rattle.rs_sched.specs.declared.event.Event.{Event}
use Rattle.rs_site.specs.Asking.{reply_of}
use Rattle.rs_site.specs.State.{SiteState}
use Rattle.rs_site.specs.Statement.{statement_of, SaysNothing}
use Rattle.rs_site.specs.Truth.{IsTrueReply}
use Rattle.rs_course.specs.declared.input.Input.{Input}
use Rattle.rs_course.specs.declared.outs.Decided.{Decided}
use Rattle.rs_course.specs.declared.report.ReportedReply.{ReportedReply}
use Rattle.rs_course.specs.declared.report.Report.{Report}
use Rattle.rs_course.specs.Course.{Action, Post, gives}
use Rattle.rs_site.specs.Course.{course, decided_by}
use Rattle.rs_course.specs.History.{with_entries}
use Rattle.rs_site.specs.History.{database_of, outcome_after}
use Rattle.rs_course.specs.Moments.{actions, sites_of}
use Rattle.rs_site.specs.Moments.{IsStep, Accepts, world_after}
use Rattle.rs_site.specs.Report.{report_of}
use Rattle.rs_site.specs.Tables.{tables_at}
use Rattle.rs_course.specs.World.{site_at}
use Rattle.law_mean.specs.Laws.{EachTable, IsAtSite, IsTyped}
use Rattle.law_world.specs.Stores.{IsApplied, content_of}

-- the reply is the final one of an accepted request
abbrev pub IsFinal : Reply → Type 0
IsFinal (replies.Done answered) = Unit {0}
IsFinal (replies.Denied cause) = Unit {0}
IsFinal (replies.Failed reason) = Unit {0}
IsFinal (replies.Shown lines) = Unit {0}
IsFinal (replies.Syntax position) = Unit {0}
IsFinal (replies.OldEpoch epoch) = ⊥
IsFinal (replies.OldRequest last) = ⊥
IsFinal (replies.Gap last) = ⊥

-- the reply reports that the request is committed
abbrev pub IsCommitted : Reply → Type 0
IsCommitted (replies.Done answered) = Unit {0}
IsCommitted (replies.Denied cause) = Unit {0}
IsCommitted (replies.Failed reason) = ⊥
IsCommitted (replies.Shown lines) = ⊥
IsCommitted (replies.Syntax position) = ⊥
IsCommitted (replies.OldEpoch epoch) = ⊥
IsCommitted (replies.OldRequest last) = ⊥
IsCommitted (replies.Gap last) = ⊥

-- The history has the entry of this reply's request at this position, and the reply is its meaning over the database of
-- the entries before it.
pub record IsMeaningAt (sites : ℕ) (history : List Decided) (i : ℕ) (given : ReportedReply) : Type 0 where
  pub entry : Decided
  pub there : slice_get history i ≡ Some entry
  pub origin : entry.origin ≡ given.origin
  pub outcome : Outcome
  pub meaning : outcome_after sites (take i history) entry ≡ Some outcome
  pub reply : given.reply ≡ reply_of outcome

-- The reply of this position was given in a step of the asked site, and is true by the site's state then.
pub record IsGivenTruly (events : List Event) (position : ℕ) (given : ReportedReply) : Type 0 where
  pub before : List Action
  pub action : Action
  pub site : SiteState
  pub input : Input
  pub step : IsStep events before action site input
  pub home : step.number ≡ given.origin.site
  pub first : length (world_after before).replies ≤ position
  pub gives : slice_get (world_after (before ++ action ∷ [])).replies position ≡ Some given
  pub true : IsTrueReply site given.origin given.reply

-- The request was accepted with a text that has no supported statement, and to which this byte offset is replied.
pub record IsNoRequest (events : List Event) (origin : Origin) (position : ℕ) : Type 0 where
  pub text : List ℕ
  pub accepts : Accepts events origin text
  pub no_request : statement_of text ≡ None
  pub says : SaysNothing text position

pub record Explains (events : List Event) (report : Report) : Type 0 where
  -- the report is that of the last state of the course
  pub from_last_state : report ≡ report_of (course events)
  -- no two entries have one transaction or one request
  pub entries_distinct : (i j : ℕ) (a b : Decided) → i < j → slice_get report.history i ≡ Some a
      → slice_get report.history j ≡ Some b → (a.txn ≢ b.txn) × (a.origin ≢ b.origin)
  -- each entry was asked, and accepted by its site, with its text
  pub entries_asked : (i : ℕ) (entry : Decided) → slice_get report.history i ≡ Some entry
      → Accepts events entry.origin entry.text
  -- by an action come the entries that its step reports as committed, but for those whose transactions are there
  pub entries_added : (before suffix : List Action) (action : Action) → actions events ≡ before ++ action ∷ suffix
      → (world_after (before ++ action ∷ [])).history
      ≡ with_entries (world_after before).history (decided_by (world_after before) (gives (world_after before) action))
  -- the history in each state is a prefix of that in each later one, and the last is the report's
  pub history_grows : (before between suffix : List Action) → actions events ≡ before ++ between ++ suffix
      → (more : List Decided) × ((world_after (before ++ between)).history ≡ (world_after before).history ++ more)
  pub history_is_last : report.history ≡ (world_after (actions events)).history
  -- each reply that reports a committed request is the meaning of its entry over the database of the entries before it
  pub answers_are_meaning : (k : ℕ) (given : ReportedReply) → slice_get report.replies k ≡ Some given → IsCommitted given.reply
      → (i : ℕ) × IsMeaningAt (sites_of events) report.history i given
  -- an entry that was denied changed nothing
  pub denied_changes_nothing : (i : ℕ) (entry : Decided) (cause : Denial) → slice_get report.history i ≡ Some entry
      → outcome_after (sites_of events) (take i report.history) entry ≡ Some (Denied cause)
      → database_of (sites_of events) (take (i + 1) report.history) ≡ database_of (sites_of events) (take i report.history)
  -- real-time order: an entry whose reply was given before the request of another was asked comes before that
  pub after_what_was_reported : (before suffix : List Action) (k i j : ℕ) (given : ReportedReply) (a b : Decided)
      → actions events ≡ before ++ suffix
      → slice_get (world_after before).replies k ≡ Some given → IsCommitted given.reply
      → slice_get report.history i ≡ Some a → a.origin ≡ given.origin
      → slice_get report.history j ≡ Some b → ((text : List ℕ) → Contains before (Post b.origin text) → ⊥)
      → i < j
  -- each reply was given in a step of its site, and was true there
  pub replies_given_truly : (k : ℕ) (given : ReportedReply)
      → slice_get report.replies k ≡ Some given → IsGivenTruly events k given
  -- a text that was refused has no supported statement, and its fault is at the replied byte offset
  pub syntax_true : (k position : ℕ) (given : ReportedReply) → slice_get report.replies k ≡ Some given
      → given.reply ≡ replies.Syntax position → IsNoRequest events given.origin position
  -- a repeated reply is the first one
  pub repeated_replies_agree : (k l : ℕ) (a b : ReportedReply) → slice_get report.replies k ≡ Some a
      → slice_get report.replies l ≡ Some b → a.origin ≡ b.origin → IsFinal a.reply → IsFinal b.reply → a.reply ≡ b.reply
  -- no stored section ran
  pub runs_stand : report.runs ≡ []
  -- in each state a site that is up stores of each resource what the history so far makes of it, once what is decided is
  -- applied there
  pub stores_follow : (before suffix : List Action) (number : ℕ) (site : SiteState) (what : Resource)
      → actions events ≡ before ++ suffix
      → site_at (world_after before) number ≡ Some site → IsApplied site what
      → content_of site what ≡ expected (database_of (sites_of events) (world_after before).history) site.who.me what
  -- the report shows each site; one that is up, with all applied, shows the tables of the whole history that it stores
  pub sites_shown : length report.sites ≡ sites_of events
  pub views_agree : (i : ℕ) (site : SiteState) → slice_get (course events).sites i ≡ Some (record { up = Some site })
      → ((what : Resource) → IsApplied site what)
      → slice_get report.sites i ≡ Some (record { site = i + 1; up = Some site.who.epoch; tables = tables_at (i + 1) (database_of (sites_of events) report.history) })
  pub tables_in_order : IsInOrder (database_of (sites_of events) report.history)
  -- each of its rows has a value for each column, of its kind, and each of its tables is stored at one of the sites
  pub tables_typed : EachTable IsTyped (database_of (sites_of events) report.history)
  pub tables_placed : EachTable (IsAtSite (sites_of events)) (database_of (sites_of events) report.history)
