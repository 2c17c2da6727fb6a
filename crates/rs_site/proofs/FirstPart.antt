-- A site receives an ask of a first part.
use Rattle.std.proofs.Common.{◌≡◌, ◌≤◌, ℕ, true, false, List, length, sym, ap, ◌∙◌, subst, arith, nat_lt}
use Rattle.std.specs.Prelude.{◌==◌}
use Rattle.std.proofs.lemmas.Bool.Decides.{nat_tests}
use Rattle.rs_base.specs.declared.peer.Peer.{Peer}
use Rattle.rs_msg.specs.declared.message.Ask.{Ask}
use Rattle.rs_msg.specs.declared.message.Message.TheVariants as messages
use Rattle.rs_msg.specs.Message.{IsMessage}
use Rattle.rs_msg.specs.Written.{message_bytes}
use Rattle.rs_msg.proofs.Sizes.{ask_fits}
use Rattle.rs_msg.proofs.Whole.{message_read, once_message, written_message}
use Rattle.rs_course.specs.declared.input.Input.TheVariants as inputs
use Rattle.rs_site.specs.Asking.{origin_of, on_first}
use Rattle.rs_site.specs.State.{SiteState}
use Rattle.rs_site.specs.Step.{most_bytes, on_read, planned_step}
use Rattle.rs_site.proofs.Planning.{when_true, when_false}

short : (bytes : List ℕ) (ask : Ask) → IsMessage bytes (messages.Ask ask) → length bytes ≤ 32768
short bytes ask is =
    let within = is.1.within in
    let spelled : bytes ≡ message_bytes (messages.Ask ask) = once_message bytes (message_bytes (messages.Ask ask)) (messages.Ask ask) is (written_message (messages.Ask ask) within) in
    subst (λ (bs : List ℕ). length bs ≤ 32768) (sym spelled) (ask_fits ask within)

pub step_of_first : (site : SiteState) (from : Peer) (bytes : List ℕ) (ask : Ask) → IsMessage bytes (messages.Ask ask) → ask.part ≡ 0
    → planned_step site (inputs.Datagram from bytes) ≡ on_first site from (origin_of site.who ask) ask.text
unfolding planned_step
step_of_first site from bytes ask is part =
    let le = short bytes ask is in
    let fits : nat_lt most_bytes (length bytes) ≡ false = grind (arith, nat_tests, le) in
    let is_first : (ask.part == 0) ≡ true = grind (arith, nat_tests, part) in
    when_false _ _ _ fits ∙ ap (λ r. on_read site from r) ((message_read bytes (messages.Ask ask)).0 is) ∙ when_true _ _ _ is_first
