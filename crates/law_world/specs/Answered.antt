-- Each ask is answered: it has one reply, in the order of the asks; and a request that its site accepts is in the history,
-- or its text has no supported statement. This is said of calm schedules.
use Rattle.std.specs.Prelude.{◌≡◌, ℕ, ◌<◌, ◌==◌, List, [], ◌∷◌, ◌++◌, map, length, flat_map, if◌then◌else◌, Some, None}
use Rattle.std.specs.List.{slice_get, range_with_len, Contains}
use Rattle.rs_base.specs.declared.txn.Origin.{Origin}
use Rattle.rs_base.specs.declared.reply.Reply.TheVariants as replies
use Rattle.rs_ast.specs.declared.stmt.Stmt.{Stmt}
use Rattle.rs_sched.specs.declared.event.Event.{Event}
use Rattle.rs_sched.specs.declared.event.Event.TheVariants as events
use Rattle.rs_site.specs.Asking.{last_number}
use Rattle.rs_site.specs.Statement.{statement_of, offset_replied}
use Rattle.rs_course.specs.declared.outs.Decided.{Decided}
use Rattle.rs_course.specs.declared.report.ReportedReply.{ReportedReply}
use Rattle.rs_course.specs.declared.report.Report.{Report}
use Rattle.rs_site.specs.Course.{course}
use Rattle.rs_site.specs.History.{database_of}
use Rattle.rs_course.specs.Moments.{sites_of}
use Rattle.rs_site.specs.Moments.{Accepts}
use Rattle.rs_site.specs.Tables.{tables_at}
use Rattle.law_world.specs.Explains.{IsCommitted}

-- Requests are numbered from 1: none is named by the number 0.
abbrev pub numbered : Origin → List Origin
numbered origin = if origin.number == 0 then [] else origin ∷ []

-- the request that an event asks
abbrev pub asked_by : Event → List Origin
asked_by (events.Ask origin text) = numbered origin
asked_by (events.Sites last) = []
asked_by (events.Deliver k) = []
asked_by (events.Lose k) = []
asked_by (events.Tick site n) = []
asked_by (events.Stop site k j) = []
asked_by (events.Arm site c k j) = []
asked_by (events.Restart site) = []
asked_by (events.Settle count) = []
asked_by (events.Noise site bytes) = []

-- the requests that are asked, in the order of the asks, as often as they are
abbrev pub requests_asked : List Event → List Origin
requests_asked given = flat_map asked_by given

-- the requests that are answered, in the order of the replies, as often as they are
abbrev pub requests_answered : List ReportedReply → List Origin
requests_answered givens = flat_map (λ given. numbered given.origin) givens

-- the history has an entry of this request, with this text
pub record IsEntered (history : List Decided) (origin : Origin) (text : List ℕ) : Type 0 where
  pub position : ℕ
  pub entry : Decided
  pub there : slice_get history position ≡ Some entry
  pub origin_is : entry.origin ≡ origin
  pub text_is : entry.text ≡ text

-- A reply reports to the request of this entry that it is committed.
pub record IsReplied (givens : List ReportedReply) (entry : Decided) : Type 0 where
  pub position : ℕ
  pub given : ReportedReply
  pub there : slice_get givens position ≡ Some given
  pub origin : given.origin ≡ entry.origin
  pub committed : IsCommitted given.reply

pub record EachAskIsAnswered (given : List Event) (report : Report) : Type 0 where
  -- the replies answer the requests that are asked, each ask once, in their order
  pub in_order : requests_answered report.replies ≡ requests_asked given
  -- so do the replies after each settle, of what was asked before it
  pub settled : (before suffix : List Event) → given ≡ before ++ events.Settle None ∷ suffix
      → requests_answered (course (before ++ events.Settle None ∷ [])).replies ≡ requests_asked before
  -- each entry has its reply
  pub entries_replied : (i : ℕ) (entry : Decided) → slice_get report.history i ≡ Some entry → IsReplied report.replies entry
  -- a request that its site accepts is entered
  pub entered : (origin : Origin) (text : List ℕ) (stmt : Stmt) → Contains given (events.Ask origin text)
      → Accepts given origin text → statement_of text ≡ Some stmt → IsEntered report.history origin text
  -- a text without a supported statement is answered so
  pub no_request_replied : (origin : Origin) (text : List ℕ) → Contains given (events.Ask origin text)
      → Accepts given origin text → statement_of text ≡ None
      → Contains report.replies (record { origin = origin; reply = replies.Syntax (offset_replied text) })
  -- each site is up, in its first epoch, and shows the tables of the whole history that it stores
  pub sites_are_up : report.sites ≡ map (λ number. record { site = number; up = Some 1; tables = tables_at number (database_of (sites_of given) report.history) }) (range_with_len 1 (sites_of given))

-- there are fewer events than a site has transactions in an epoch, so that each ask may have one
abbrev pub HaveTransactions : List Event → Type 0
HaveTransactions given = length given < last_number
