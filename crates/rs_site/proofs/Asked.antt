-- The result of an ask of a first part, case by case.
use Rattle.std.proofs.Common.{◌≡◌, ◌≢◌, ℕ, ◌+◌, inl, inr, Bool, true, false, ◌&&◌, List, length, Option, Some, None, IsTrue, refl, length-append, arith, nat_lt}
use Rattle.std.specs.Prelude.{◌==◌, ◌++◌, codes}
use Rattle.std.proofs.lemmas.Bool.{and_parts}
use Rattle.std.proofs.lemmas.Bool.Decides.{nat_tests}
use Rattle.rs_base.specs.declared.peer.Peer.{Peer}
use Rattle.rs_base.specs.declared.txn.Origin.{Origin}
use Rattle.rs_base.specs.declared.reply.Reply.{Reply}
use Rattle.rs_base.specs.declared.reply.Reply.TheVariants as replies
use Rattle.rs_print.specs.Replies.{printed_origin, printed_class}
use Rattle.rs_ast.specs.declared.stmt.Stmt.{Stmt}
use Rattle.rs_site.specs.Statement.{statement_of}
use Rattle.rs_session.specs.declared.session.Session.{Session}
use Rattle.rs_session.specs.Sessions.{session_of, last_is_answered}
use Rattle.rs_site.specs.State.{SiteState}
use Rattle.rs_site.specs.Truth.{IsAhead, IsTrueReply}
use Rattle.rs_site.specs.Asking.{replying, repeated, executed, last_number, accepted_as, refused, by_number, is_next, on_first}
use Rattle.rs_site.specs.Planned.{Planned, idle}
use Rattle.rs_site.proofs.Planning.{when_true, by_when}
use Rattle.rs_session.specs.Parts.{has_part}

-- the reply refuses a request
abbrev pub IsRefusal : Reply → Type 0
IsRefusal (replies.Done answered) = ⊥
IsRefusal (replies.Denied cause) = ⊥
IsRefusal (replies.Failed reason) = ⊥
IsRefusal (replies.Shown lines) = ⊥
IsRefusal (replies.Syntax offset) = ⊥
IsRefusal (replies.OldEpoch epoch) = Unit {0}
IsRefusal (replies.OldRequest last) = Unit {0}
IsRefusal (replies.Gap last) = Unit {0}

-- the request is the last accepted one of its user
pub record IsLast (site : SiteState) (origin : Origin) : Type 0 where
  pub epoch : origin.epoch ≡ site.who.epoch
  pub number : origin.number ≡ (session_of origin.user site.desk.sessions).last

-- the request is the next of its user, and the last one is answered
pub record IsNext (site : SiteState) (origin : Origin) : Type 0 where
  pub epoch : origin.epoch ≡ site.who.epoch
  pub number : origin.number ≡ (session_of origin.user site.desk.sessions).last + 1
  pub may : IsTrue (last_is_answered (session_of origin.user site.desk.sessions))

pub data Asked (site : SiteState) (from : Peer) (origin : Origin) (text : List ℕ) (came : Planned) : Type 0 where
  Refused : (reply : Reply) → IsRefusal reply → IsTrueReply site origin reply → came ≡ refused site from origin reply → Asked site from origin text came
  RepliedAgain : (reply : Reply) → IsLast site origin → (session_of origin.user site.desk.sessions).reply ≡ Some reply → came ≡ replying from origin 0 reply site → Asked site from origin text came
  Silent : IsLast site origin → (session_of origin.user site.desk.sessions).reply ≡ None → came ≡ idle site → Asked site from origin text came
  NoRequest : IsNext site origin → statement_of text ≡ None → came ≡ accepted_as site from origin text None → Asked site from origin text came
  Spent : IsNext site origin → (stmt : Stmt) → statement_of text ≡ Some stmt → site.desk.begun ≡ last_number → came ≡ idle site → Asked site from origin text came
  Executed : IsNext site origin → (stmt : Stmt) → statement_of text ≡ Some stmt → site.desk.begun ≢ last_number → came ≡ executed site from origin text stmt → Asked site from origin text came

-- a printed reply is never empty
begins : (rest : List ℕ) → nat_lt 0 (length (codes "reply " ++ rest)) ≡ true
begins rest = grind (arith, nat_tests, length-append (codes "reply ") rest)

has_first : (origin : Origin) (reply : Reply) → has_part origin reply 0 ≡ true
has_first origin reply = begins (printed_origin origin ++ codes " " ++ printed_class reply)

module _ (site : SiteState) (from : Peer) (origin : Origin) (text : List ℕ) where
  abbrev Is : Planned → Type 0
  Is came = Asked site from origin text came

  abbrev session : Session
  session = session_of origin.user site.desk.sessions

  by_text : IsNext site origin → (read : Option Stmt) → statement_of text ≡ read → Is (accepted_as site from origin text read)
  by_text next None e = NoRequest next e refl
  by_text next (Some stmt) e =
      by_when Is _ _ _ (λ spent. Spent next stmt e (grind (arith, nat_tests, spent)) refl) (λ room. Executed next stmt e (grind (arith, nat_tests, room)) refl)

  by_kept : IsLast site origin → (kept : Option Reply) → session.reply ≡ kept → Is (repeated site from origin 0 kept)
  by_kept last None e = Silent last e refl
  by_kept last (Some reply) e = RepliedAgain reply last e (when_true (has_part origin reply 0) _ _ (has_first origin reply))

  -- a number that is neither old, nor the last, nor the next one to be accepted
  is_ahead : (nat_lt origin.number session.last) ≡ false → (origin.number == session.last) ≡ false → is_next origin.number session ≡ false → IsAhead session origin.number
  is_ahead low other not_next = by (origin.number == session.last + 1) (last_is_answered session) refl refl not_next
    where
      by : (next may : Bool) → (origin.number == session.last + 1) ≡ next → last_is_answered session ≡ may → (next && may) ≡ false → IsAhead session origin.number
      by true true h m e = absurd cc
      by true false h m e = inr (grind (arith, nat_tests, h), m)
      by false may h m e = inl (grind (arith, nat_tests, h, other, low))

  by_session : origin.epoch ≡ site.who.epoch → Is (by_number site from origin text session)
  by_session epoch =
      by_when Is _ _ _ (λ old. Refused (replies.OldRequest session.last) tt (epoch, refl, grind (arith, nat_tests, old)) refl)
      (λ low. by_when Is _ _ _ (λ last. by_kept (record { epoch = epoch; number = grind (arith, nat_tests, last) }) session.reply refl)
      (λ other. by_when Is _ _ _ (λ next. by_text (is_its_next next) (statement_of text) refl)
      (λ not_next. Refused (replies.Gap session.last) tt (epoch, refl, is_ahead low other not_next) refl)))
    where
      is_its_next : is_next origin.number session ≡ true → IsNext site origin
      is_its_next h =
          let parts = and_parts (origin.number == session.last + 1) (last_is_answered session) h in
          record { epoch = epoch; number = grind (arith, nat_tests, parts.0); may = parts.1 }

  -- one of the cases is there
  pub asked : Is (on_first site from origin text)
  asked = by_when Is _ _ _ (λ same. by_session (grind (arith, nat_tests, same)))
      (λ differs. Refused (replies.OldEpoch site.who.epoch) tt (refl, grind (arith, nat_tests, differs)) refl)
