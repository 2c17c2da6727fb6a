-- The facts of the history hold in each state.
use Rattle.std.proofs.Common.{◌≡◌, ℕ, List, [], ◌∷◌, ◌++◌, map, Some, sym, subst, ◌∙◌}
use Rattle.std.proofs.lemmas.List.{append-nil}
use Rattle.rs_base.specs.declared.peer.Peer.TheVariants as peers
use Rattle.rs_base.specs.declared.txn.Origin.{Origin}
use Rattle.rs_base.specs.declared.reply.Reply.{Reply}
use Rattle.rs_base.specs.declared.reply.Reply.TheVariants as replies
use Rattle.rs_ast.specs.declared.stmt.Stmt.{Stmt}
use Rattle.rs_site.specs.Statement.{statement_of, offset_replied}
use Rattle.rs_sched.specs.declared.event.Event.{Event}
use Rattle.rs_course.specs.declared.outs.Decided.{Decided}
use Rattle.rs_site.specs.Asking.{executed, with_reply}
use Rattle.rs_session.specs.Sessions.{session_of}
use Rattle.rs_site.specs.Planned.{Planned}
use Rattle.rs_site.specs.State.{SiteState}
use Rattle.rs_site.proofs.Asked.{Asked, Refused, RepliedAgain, Silent, NoRequest, Spent, Executed, IsLast, IsNext}
use Rattle.rs_course.specs.declared.report.ReportedReply.{ReportedReply}
use Rattle.rs_course.specs.Course.{Action, GiveNext, reported_reply}
use Rattle.law_world.specs.Explains.{IsCommitted, IsMeaningAt}
use Rattle.rs_site.specs.Moments.{world_after}
use Rattle.law_world.proofs.AtEach.{ReceivesNext, IsLaw}
use Rattle.law_world.proofs.Entered.{Entered, entered_first, entered_said, entered_remembered, entered_executed}
use Rattle.law_world.proofs.Kept.{last_origin}
use Rattle.law_world.proofs.Reports.{refusal_is_not_final, committed_is_final}

module _ (given : List Event) (before : List Action) (state : SiteState) (origin : Origin) (text : List ℕ) (receiving : ReceivesNext given before state origin text)
    (holds : Entered given state (world_after before).replies (world_after before).history) where
  abbrev givens : List ReportedReply
  givens = (world_after before).replies

  abbrev history : List Decided
  history = (world_after before).history

  abbrev After : Planned → Type 0
  After came = Entered given came.after (givens ++ map reported_reply came.outs.replies) (history ++ came.outs.decided)

  home : origin.site ≡ state.who.me
  home = receiving.post.site ∙ sym receiving.stands.one.me

  without_entry : (next : SiteState) (more : List ReportedReply) → Entered given next (givens ++ more) history → Entered given next (givens ++ more) (history ++ [])
  without_entry next more entered = subst (λ (h : List Decided). Entered given next (givens ++ more) h) (sym (append-nil history)) entered

  on_nothing : Entered given state (givens ++ []) (history ++ [])
  on_nothing = without_entry state [] (subst (λ (gs : List ReportedReply). Entered given state gs history) (sym (append-nil givens)) holds)

  on_replied : (next : SiteState) (reply : Reply) → (IsCommitted reply → (i : ℕ) × IsMeaningAt 1 history i (record { origin = origin; reply = reply })) → Entered given next givens history
      → Entered given next (givens ++ (record { origin = origin; reply = reply }) ∷ []) (history ++ [])
  on_replied next reply meant entered = without_entry next ((record { origin = origin; reply = reply }) ∷ []) (entered_said given next givens history (record { origin = origin; reply = reply }) meant entered)

  on_repeat : (reply : Reply) → IsLast state origin → (session_of origin.user state.desk.sessions).reply ≡ Some reply → Entered given state (givens ++ (record { origin = origin; reply = reply }) ∷ []) (history ++ [])
  on_repeat reply last kept =
      let asked : last_origin state origin.user ≡ origin = λ i. record { site = sym home i; user = origin.user; epoch = sym last.epoch i; number = sym last.number i } in
      on_replied state reply (λ committed.
      let there = holds.known origin.user reply kept committed in
      (there.0, subst (λ (o : Origin). IsMeaningAt 1 history there.0 (record { origin = o; reply = reply })) asked there.1)) holds

  on_no_request : IsNext state origin → Entered given (with_reply origin (replies.Syntax (offset_replied text)) state) (givens ++ (record { origin = origin; reply = replies.Syntax (offset_replied text) }) ∷ []) (history ++ [])
  on_no_request next = on_replied (with_reply origin (replies.Syntax (offset_replied text)) state) (replies.Syntax (offset_replied text)) (λ committed. absurd committed)
      (entered_remembered given state givens history origin (replies.Syntax (offset_replied text)) next.number home next.epoch (λ committed. committed) holds)

  on_executed : IsNext state origin → (stmt : Stmt) → statement_of text ≡ Some stmt → After (executed state (peers.Client 0) origin text stmt)
  on_executed next stmt reads = entered_executed given state givens history origin text stmt reads next.number home next.epoch receiving.stands.one.me receiving.stands.one.epoch
      (record { before = before; action = GiveNext; site = state; receives = receiving.receives; epoch = next.epoch; number = next.number }) holds

  entered_received : (came : Planned) → Asked state (peers.Client 0) origin text came → After came
  entered_received came (Refused reply refusal is e) = subst After (sym e) (on_replied state reply (λ committed. absurd (refusal_is_not_final reply refusal (committed_is_final reply committed))) holds)
  entered_received came (RepliedAgain reply last kept e) = subst After (sym e) (on_repeat reply last kept)
  entered_received came (Silent last kept e) = subst After (sym e) on_nothing
  entered_received came (NoRequest next none e) = subst After (sym e) (on_no_request next)
  entered_received came (Spent next stmt reads spent e) = subst After (sym e) on_nothing
  entered_received came (Executed next stmt reads room e) = subst After (sym e) (on_executed next stmt reads)

pub entered_law : (given : List Event) → IsLaw given (λ before state givens history. Entered given state givens history)
entered_law given = record {
  first = entered_first given;
  later = λ before action state givens history holds. holds;
  received = λ before state origin text came receiving delivers cases holds. entered_received given before state origin text receiving holds came cases;
}
