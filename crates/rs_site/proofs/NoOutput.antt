-- What is dropped changes nothing.
use Rattle.std.proofs.Common.{◌≡◌, ℕ, ◌<◌, true, false, ◌==◌, List, length, Option, Some, None, refl, sym, ap, ◌∙◌, arith, nat_lt, inl, inr, ◌↔◌}
use Rattle.std.proofs.lemmas.Bool.{and_parts}
use Rattle.std.proofs.lemmas.Bool.Decides.{nat_tests}
use Rattle.std.specs.Prelude.{Result, Ok, Err}
use Rattle.std.specs.Result.{IfOk}
use Rattle.rs_base.specs.declared.fault.NoMemory.{NoMemory}
use Rattle.rs_base.specs.declared.peer.Peer.{Peer}
use Rattle.rs_base.specs.declared.txn.Origin.{Origin}
use Rattle.rs_base.specs.declared.reply.Reply.{Reply}
use Rattle.rs_msg.specs.declared.message.Ask.{Ask}
use Rattle.rs_msg.specs.declared.message.Message.{Message}
use Rattle.rs_msg.specs.declared.message.Message.TheVariants as messages
use Rattle.rs_msg.specs.Message.{IsMessage}
use Rattle.rs_msg.specs.Reader.{message_of}
use Rattle.rs_course.specs.declared.input.Input.{Input}
use Rattle.rs_course.specs.declared.input.Input.TheVariants as inputs
use Rattle.rs_course.specs.declared.outs.Outs.{Outs}
use Rattle.rs_site.specs.Asking.{repeated, origin_of, on_further, on_ask}
use Rattle.rs_course.specs.Outs.{no_outs}
use Rattle.rs_site.specs.Planned.{Planned, done, idle}
use Rattle.rs_session.specs.Parts.{has_part}
use Rattle.rs_site.specs.Dropped.{HasFurther, FitsNoRule, IsDropped}
use Rattle.rs_session.specs.Sessions.{session_of}
use Rattle.rs_site.specs.State.{SiteState}
use Rattle.rs_site.specs.Step.{most_bytes, on_message, on_read, on_datagram, planned_step}
use Rattle.rs_site.proofs.Planning.{when_true, when_false, by_when}

-- what is read is what is encoded
abbrev pub ReadIsSpelled : Type 0
ReadIsSpelled = (bytes : List ℕ) (message : Message) → IsMessage bytes message ↔ (message_of bytes ≡ Some message)

module _ (site : SiteState) (from : Peer) where
  abbrev IsIdle : Planned → Type 0
  IsIdle planned = planned ≡ idle site

  not_again : (origin : Origin) (part : ℕ) (kept : Option Reply) → ((reply : Reply) → kept ≡ Some reply → has_part origin reply part ≡ true → ⊥) → IsIdle (repeated site from origin part kept)
  not_again origin part None none = refl
  not_again origin part (Some reply) none = by_when IsIdle _ _ _ (λ has. absurd (none reply refl has)) (λ _. refl)

  further_has_no_output : (ask : Ask) → (HasFurther site.who site.desk ask → ⊥) → IsIdle (on_further site from (origin_of site.who ask) ask.part)
  further_has_no_output ask none =
      by_when IsIdle _ _ _
      (λ here.
      let parts = and_parts (ask.epoch == site.who.epoch) (ask.number == (session_of ask.user site.desk.sessions).last) here in
      not_again (origin_of site.who ask) ask.part (session_of ask.user site.desk.sessions).reply
      (λ reply kept part. none (record { epoch = grind (arith, nat_tests, parts.0); number = grind (arith, nat_tests, parts.1); reply = reply; kept = kept; part = part })))
      (λ _. refl)

  ask_has_no_output : (ask : Ask) → 0 < ask.part → (HasFurther site.who site.desk ask → ⊥) → IsIdle (on_ask site from ask)
  ask_has_no_output ask positive none =
      let further : (ask.part == 0) ≡ false = grind (arith, nat_tests) in
      when_false _ _ _ further ∙ further_has_no_output ask none

  message_has_no_output : (message : Message) → FitsNoRule site message → IsIdle (on_message site from message)
  message_has_no_output (messages.Ask ask) fits = ask_has_no_output ask fits.0 fits.1
  message_has_no_output (messages.Reply part) fits = refl

  unread_has_no_output : (read : Option Message) → ((message : Message) → read ≡ Some message → ⊥) → IsIdle (on_read site from read)
  unread_has_no_output None none = refl
  unread_has_no_output (Some message) none = absurd (none message refl)

  pub dropped_has_no_output : ReadIsSpelled → (bytes : List ℕ) → IsDropped site bytes → IsIdle (on_datagram site from bytes)
  dropped_has_no_output law bytes (inl long) =
      let over : nat_lt most_bytes (length bytes) ≡ true = grind (arith, nat_tests) in
      when_true _ _ _ over
  dropped_has_no_output law bytes (inr (inl none)) =
      by_when IsIdle _ _ _ (λ _. refl) (λ _. unread_has_no_output (message_of bytes) (λ message read. none message ((law bytes message).1 read)))
  dropped_has_no_output law bytes (inr (inr (message, is, fits))) =
      by_when IsIdle _ _ _ (λ _. refl) (λ _. ap (λ read. on_read site from read) ((law bytes message).0 is) ∙ message_has_no_output message fits)

-- a step over what is dropped
pub step_has_no_output : ReadIsSpelled → (site new : SiteState) (from : Peer) (bytes : List ℕ) (input : Input) (result : Result Outs NoMemory) → input ≡ inputs.Datagram from bytes → IsDropped site bytes
    → IfOk result (λ outs. done (planned_step site input) true ≡ (Some new, outs)) → IfOk result (λ outs. (new ≡ site) × (outs ≡ no_outs))
unfolding planned_step
step_has_no_output law site new from bytes input (Ok outs) at dropped step =
    let datagram : on_datagram site from bytes ≡ planned_step site input = ap (λ i. planned_step site i) (sym at) in
    let same : done (idle site) true ≡ (Some new, outs) = ap (λ p. done p true) (sym (dropped_has_no_output site from law bytes dropped) ∙ datagram) ∙ step in
    let stays : Some site ≡ Some new = ap (λ s. s.0) same in
    (cc, ap (λ s. s.1) (sym same))
step_has_no_output law site new from bytes input (Err fault) at dropped step = tt
