-- Each step is of one of three kinds: it leaves the site as it was, it stores the reply to a text without a supported
-- statement, or it executes a statement.
use Rattle.std.proofs.Common.{◌≡◌, ℕ, ◌+◌, true, ◌==◌, List, [], Option, Some, None, refl, arith}
use Rattle.std.proofs.lemmas.Bool.{and_parts}
use Rattle.std.proofs.lemmas.Bool.Decides.{nat_tests}
use Rattle.rs_ast.specs.declared.stmt.Stmt.{Stmt}
use Rattle.rs_base.specs.declared.peer.Peer.{Peer}
use Rattle.rs_base.specs.declared.txn.Origin.{Origin}
use Rattle.rs_base.specs.declared.reply.Reply.{Reply}
use Rattle.rs_msg.specs.declared.message.Ask.{Ask}
use Rattle.rs_msg.specs.declared.message.Message.{Message}
use Rattle.rs_msg.specs.declared.message.Message.TheVariants as messages
use Rattle.rs_msg.specs.Reader.{message_of}
use Rattle.rs_site.specs.Statement.{statement_of, offset_replied}
use Rattle.rs_course.specs.declared.input.Input.{Input}
use Rattle.rs_course.specs.declared.input.Input.TheVariants as inputs
use Rattle.rs_session.specs.declared.session.Session.{Session}
use Rattle.rs_course.specs.declared.outs.Outs.{Outs}
use Rattle.rs_site.specs.Asking.{repeated, no_request, executed, accepted_as, by_number, is_next, origin_of, on_first, on_further, on_ask}
use Rattle.rs_session.specs.Sessions.{session_of, last_is_answered}
use Rattle.rs_site.specs.Planned.{Planned, sending}
use Rattle.rs_site.specs.State.{SiteState}
use Rattle.rs_site.specs.Step.{on_read, on_datagram, planned_step}
use Rattle.rs_site.proofs.Planning.{by_when}

-- the site is as it was, and nothing is committed, appended and run
pub record Stays (site : SiteState) (step : Planned) : Type 0 where
  pub same : step.after ≡ site
  pub none : step.outs.decided ≡ []
  pub unlogged : step.items ≡ []
  pub unrun : step.outs.runs ≡ []

-- the request is the user's next
abbrev pub IsNext : SiteState → Origin → Type 0
IsNext site origin = origin.number ≡ (session_of origin.user site.desk.sessions).last + 1

-- a text without a supported statement was accepted
pub record Remembers (site : SiteState) (step : Planned) : Type 0 where
  pub from : Peer
  pub origin : Origin
  pub next : IsNext site origin
  pub offset : ℕ
  pub is : step ≡ no_request site from origin offset

-- a statement was accepted and executed
pub record Executes (site : SiteState) (step : Planned) : Type 0 where
  pub from : Peer
  pub origin : Origin
  pub text : List ℕ
  pub stmt : Stmt
  pub next : IsNext site origin
  pub spelled : statement_of text ≡ Some stmt
  pub is : step ≡ executed site from origin text stmt

pub data Kind (site : SiteState) (step : Planned) : Type 0 where
  Staying : Stays site step → Kind site step
  Remembering : Remembers site step → Kind site step
  Executing : Executes site step → Kind site step

module _ (site : SiteState) (from : Peer) where
  -- what goes out changes nothing
  pub sent : (outs : Outs) → outs.decided ≡ [] → outs.runs ≡ [] → Stays site (sending site outs)
  sent outs none unrun = record { same = refl; none = none; unlogged = refl; unrun = unrun }

  pub again_stays : (origin : Origin) (part : ℕ) (kept : Option Reply) → Stays site (repeated site from origin part kept)
  again_stays origin part None = sent _ refl refl
  again_stays origin part (Some reply) =
      by_when (Stays site) _ _ _ (λ _. sent _ refl refl) (λ _. sent _ refl refl)

  module _ (origin : Origin) (text : List ℕ) (next : IsNext site origin) where
    accepted_as_kind : (read : Option Stmt) → statement_of text ≡ read → Kind site (accepted_as site from origin text read)
    accepted_as_kind None e = Remembering (record { from = from; origin = origin; next = next; offset = offset_replied text; is = refl })
    accepted_as_kind (Some stmt) e =
        by_when (Kind site) _ _ _ (λ _. Staying (sent _ refl refl))
        (λ _. Executing (record { from = from; origin = origin; text = text; stmt = stmt; next = next; spelled = e; is = refl }))

  next_is : (n : ℕ) (session : Session) → is_next n session ≡ true → n ≡ session.last + 1
  next_is n session h = grind (arith, nat_tests, (and_parts (n == session.last + 1) (last_is_answered session) h).0)

  by_number_kind : (origin : Origin) (text : List ℕ) → Kind site (by_number site from origin text (session_of origin.user site.desk.sessions))
  by_number_kind origin text =
      let session : Session = session_of origin.user site.desk.sessions in
      by_when (Kind site) _ _ _ (λ _. Staying (sent _ refl refl))
      (λ _. by_when (Kind site) _ _ _ (λ _. Staying (again_stays origin 0 session.reply))
      (λ _. by_when (Kind site) _ _ _ (λ h. accepted_as_kind origin text (next_is origin.number session h) (statement_of text) refl)
      (λ _. Staying (sent _ refl refl))))

  first_kind : (origin : Origin) (text : List ℕ) → Kind site (on_first site from origin text)
  first_kind origin text = by_when (Kind site) _ _ _ (λ _. by_number_kind origin text) (λ _. Staying (sent _ refl refl))

  pub further_stays : (origin : Origin) (part : ℕ) → Stays site (on_further site from origin part)
  further_stays origin part =
      by_when (Stays site) _ _ _ (λ _. again_stays origin part (session_of origin.user site.desk.sessions).reply) (λ _. sent _ refl refl)

  ask_kind : (ask : Ask) → Kind site (on_ask site from ask)
  ask_kind ask = by_when (Kind site) _ _ _ (λ _. first_kind (origin_of site.who ask) ask.text) (λ _. Staying (further_stays (origin_of site.who ask) ask.part))

  read_kind : (read : Option Message) → Kind site (on_read site from read)
  read_kind None = Staying (sent _ refl refl)
  read_kind (Some (messages.Ask ask)) = ask_kind ask
  read_kind (Some (messages.Reply part)) = Staying (sent _ refl refl)

  datagram_kind : (bytes : List ℕ) → Kind site (on_datagram site from bytes)
  datagram_kind bytes = by_when (Kind site) _ _ _ (λ _. Staying (sent _ refl refl)) (λ _. read_kind (message_of bytes))

pub step_kind : (site : SiteState) (input : Input) → Kind site (planned_step site input)
unfolding planned_step
step_kind site (inputs.Datagram from bytes) = datagram_kind site from bytes
step_kind site inputs.Tick = Staying (record { same = refl; none = refl; unlogged = refl; unrun = refl })
