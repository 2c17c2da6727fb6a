-- The next ask of a user is accepted, and the last one gets its reply repeated.
use Rattle.std.proofs.Common.{◌≡◌, ◌<◌, ℕ, ◌+◌, Bool, true, false, inl, inr, List, Option, Some, None, refl, sym, ap, ◌∙◌, subst, arith}
use Rattle.rs_base.specs.declared.peer.Peer.{Peer}
use Rattle.rs_base.specs.declared.txn.Origin.{Origin}
use Rattle.rs_base.specs.declared.reply.Reply.{Reply}
use Rattle.rs_base.specs.declared.reply.Reply.TheVariants as replies
use Rattle.rs_ast.specs.declared.stmt.Stmt.{Stmt}
use Rattle.rs_site.specs.Statement.{statement_of, offset_replied}
use Rattle.rs_msg.specs.declared.message.Ask.{Ask}
use Rattle.rs_site.specs.Asking.{replying, no_request, executed, last_number, origin_of, on_first}
use Rattle.rs_site.specs.Planned.{Planned}
use Rattle.rs_site.specs.Laws.{KeptReplyIsRepeated, IsAcceptedAs, NextIsAccepted}
use Rattle.rs_session.specs.Sessions.{session_of, last_is_answered}
use Rattle.rs_site.specs.State.{SiteState}
use Rattle.rs_site.specs.Truth.{IsTrueReply}
use Rattle.rs_site.proofs.Asked.{Asked, Refused, RepliedAgain, Silent, NoRequest, Spent, Executed, IsRefusal, asked}
use Rattle.rs_site.proofs.FirstPart.{step_of_first}
use Rattle.rs_session.proofs.PutSessions.{session_put}

clash : (b : Bool) → b ≡ true → b ≡ false → ⊥
clash b one other = cc

module _ (site : SiteState) (origin : Origin) (epoch : origin.epoch ≡ site.who.epoch) (number : origin.number ≡ (session_of origin.user site.desk.sessions).last + 1) (may : last_is_answered (session_of origin.user site.desk.sessions) ≡ true) where
  -- the next request of a user is not refused
  pub not_refused : (reply : Reply) → IsRefusal reply → IsTrueReply site origin reply → ⊥
  not_refused (replies.Done answered) refusal is = refusal
  not_refused (replies.Denied cause) refusal is = refusal
  not_refused (replies.Failed reason) refusal is = refusal
  not_refused (replies.Shown lines) refusal is = refusal
  not_refused (replies.Syntax offset) refusal is = refusal
  not_refused (replies.OldEpoch old) refusal is = is.1 epoch
  not_refused (replies.OldRequest last) refusal is = omega (arith, number, is.1, is.2)
  not_refused (replies.Gap last) refusal is =
      elim is.2 [
        | inl far ↦ omega (arith, number, far)
        | inr stuck ↦ clash (last_is_answered (session_of origin.user site.desk.sessions)) may stuck.1
      ]

-- A request is accepted: its text has no parse, or it is executed.
pub data Acceptance (site : SiteState) (from : Peer) (origin : Origin) (text : List ℕ) (came : Planned) : Type 0 where
  NotRead : statement_of text ≡ None → came ≡ no_request site from origin (offset_replied text) → Acceptance site from origin text came
  Read : (stmt : Stmt) → statement_of text ≡ Some stmt → came ≡ executed site from origin text stmt → Acceptance site from origin text came

pub accepted : (site : SiteState) (from : Peer) (origin : Origin) (text : List ℕ) → origin.epoch ≡ site.who.epoch → origin.number ≡ (session_of origin.user site.desk.sessions).last + 1 → last_is_answered (session_of origin.user site.desk.sessions) ≡ true
    → site.desk.begun < last_number → (came : Planned) → Asked site from origin text came → Acceptance site from origin text came
accepted site from origin text epoch number may room came (Refused reply refusal is e) = absurd (not_refused site origin epoch number may reply refusal is)
accepted site from origin text epoch number may room came (RepliedAgain reply last kept e) = absurd (omega (arith, number, last.number))
accepted site from origin text epoch number may room came (Silent last kept e) = absurd (omega (arith, number, last.number))
accepted site from origin text epoch number may room came (NoRequest next none e) = NotRead none e
accepted site from origin text epoch number may room came (Spent next stmt reads spent e) = absurd (omega (arith, spent, room))
accepted site from origin text epoch number may room came (Executed next stmt reads is e) = Read stmt reads e

-- ---- one step

accepted_as : (site : SiteState) (from : Peer) (ask : Ask) (came : Planned) → Acceptance site from (origin_of site.who ask) ask.text came → IsAcceptedAs site from ask (statement_of ask.text) came.after came.outs
accepted_as site from ask came (NotRead none e) =
    subst (λ (read : Option Stmt). IsAcceptedAs site from ask read came.after came.outs) (sym none)
    (subst (λ (p : Planned). IsAcceptedAs site from ask None p.after p.outs) (sym e)
    (record { reported = refl; kept = session_put ask.user (record { last = ask.number; reply = Some (replies.Syntax (offset_replied ask.text)) }) site.desk.sessions }, refl))
accepted_as site from ask came (Read stmt reads e) =
    subst (λ (read : Option Stmt). IsAcceptedAs site from ask read came.after came.outs) (sym reads)
    (subst (λ (p : Planned). IsAcceptedAs site from ask (Some stmt) p.after p.outs) (sym e)
    (record { reported = refl; kept = session_put ask.user (record { last = ask.number; reply = Some _ }) site.desk.sessions }, refl))

pub next_is_accepted : NextIsAccepted
next_is_accepted site from bytes ask is next room =
    let origin : Origin = origin_of site.who ask in
    let first : Planned = on_first site from origin ask.text in
    subst (λ (p : Planned). IsAcceptedAs site from ask (statement_of ask.text) p.after p.outs) (sym (step_of_first site from bytes ask is next.part))
    (accepted_as site from ask first (accepted site from origin ask.text next.epoch next.number next.may room first (asked site from origin ask.text)))

---- stored replies

kept_again : (site : SiteState) (from : Peer) (origin : Origin) (text : List ℕ) (reply : Reply) → origin.epoch ≡ site.who.epoch → origin.number ≡ (session_of origin.user site.desk.sessions).last → (session_of origin.user site.desk.sessions).reply ≡ Some reply
    → (came : Planned) → Asked site from origin text came → came ≡ replying from origin 0 reply site
kept_again site from origin text reply epoch number kept came (RepliedAgain other last there e) =
    let both : Some other ≡ Some reply = sym there ∙ kept in
    let same : other ≡ reply = cc in
    e ∙ ap (λ (r : Reply). replying from origin 0 r site) same
kept_again site from origin text reply epoch number kept came (Silent last none e) = absurd (let both : None ≡ Some reply = sym none ∙ kept in cc)
kept_again site from origin text reply epoch number kept came (NoRequest next none e) = absurd (omega (arith, number, next.number))
kept_again site from origin text reply epoch number kept came (Spent next stmt reads spent e) = absurd (omega (arith, number, next.number))
kept_again site from origin text reply epoch number kept came (Executed next stmt reads room e) = absurd (omega (arith, number, next.number))
kept_again site from origin text reply epoch number kept came (Refused other refusal is e) = absurd (last_not_refused other refusal is)
  where
    last_not_refused : (r : Reply) → IsRefusal r → IsTrueReply site origin r → ⊥
    last_not_refused (replies.Done answered) refusal is = refusal
    last_not_refused (replies.Denied cause) refusal is = refusal
    last_not_refused (replies.Failed reason) refusal is = refusal
    last_not_refused (replies.Shown lines) refusal is = refusal
    last_not_refused (replies.Syntax offset) refusal is = refusal
    last_not_refused (replies.OldEpoch old) refusal is = is.1 epoch
    last_not_refused (replies.OldRequest last) refusal is = omega (arith, number, is.1, is.2)
    last_not_refused (replies.Gap last) refusal is = elim is.2 [ inl far ↦ omega (arith, number, far) | inr stuck ↦ omega (arith, number, stuck.0) ]

pub kept_reply_is_repeated : KeptReplyIsRepeated
kept_reply_is_repeated site from bytes ask reply is part epoch number kept =
    let origin : Origin = origin_of site.who ask in
    ap (λ (p : Planned). (p.after, p.outs))
    (step_of_first site from bytes ask is part ∙ kept_again site from origin ask.text reply epoch number kept (on_first site from origin ask.text) (asked site from origin ask.text))
