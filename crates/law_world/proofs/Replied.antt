-- In each state each entry of the history has its reply.
use Rattle.std.proofs.Common.{◌≡◌, ℕ, inl, inr, List, [], ◌∷◌, ◌++◌, map, length, Some, refl, sym, subst}
use Rattle.std.specs.List.{slice_get}
use Rattle.std.proofs.lemmas.List.{append-nil}
use Rattle.rs_base.specs.declared.peer.Peer.TheVariants as peers
use Rattle.rs_base.specs.declared.txn.Origin.{Origin}
use Rattle.rs_ast.specs.declared.stmt.Stmt.{Stmt}
use Rattle.rs_mean.specs.declared.execution.Execution.{Execution}
use Rattle.rs_mean.specs.Database.{Database}
use Rattle.rs_mean.specs.Meaning.{meaning}
use Rattle.rs_mean.specs.Outcome.{Outcome}
use Rattle.rs_sched.specs.declared.event.Event.{Event}
use Rattle.rs_course.specs.declared.outs.Decided.{Decided}
use Rattle.rs_site.specs.Asking.{execution_of, reply_of, executed}
use Rattle.rs_site.specs.Planned.{Planned}
use Rattle.rs_site.specs.State.{SiteState, next_txn}
use Rattle.rs_site.proofs.Asked.{Asked, Refused, RepliedAgain, Silent, NoRequest, Spent, Executed}
use Rattle.rs_course.specs.declared.report.ReportedReply.{ReportedReply}
use Rattle.rs_site.specs.World.{World}
use Rattle.rs_course.specs.Course.{reported_reply}
use Rattle.rs_site.specs.Course.{course}
use Rattle.rs_mean.proofs.Meanings.{done_or_denied}
use Rattle.law_world.specs.Answered.{IsReplied}
use Rattle.law_world.specs.Explains.{IsCommitted}
use Rattle.rs_site.specs.Moments.{world_after}
use Rattle.law_world.proofs.AtEach.{IsLaw, at_each}
use Rattle.law_world.proofs.Gets.{get_push}
use Rattle.law_world.proofs.HistoryFields.{last_is}
use Rattle.law_world.proofs.Kept.{get_prefix}
use Rattle.law_world.proofs.Played.{Playable}
use Rattle.law_world.proofs.Reports.{get_last}

abbrev pub AreReported : List ReportedReply → List Decided → Type 0
AreReported givens history = (i : ℕ) (entry : Decided) → slice_get history i ≡ Some entry → IsReplied givens entry

nothing_at : {X : Type 0} (i : ℕ) (x : X) → slice_get [] i ≡ Some x → ⊥
nothing_at i x e = cc

reported_more : (givens more : List ReportedReply) (entry : Decided) → IsReplied givens entry → IsReplied (givens ++ more) entry
reported_more givens more entry is = record { position = is.position; given = is.given; there = get_prefix givens more is.given is.position is.there; origin = is.origin; committed = is.committed }

is_committed : (db : Database) (execution : Execution) → IsCommitted (reply_of (meaning db execution).1)
is_committed db execution = done_or_denied db execution (λ outcome. IsCommitted (reply_of outcome)) (λ given. tt) (λ cause. tt)

module _ (site : SiteState) (origin : Origin) (text : List ℕ) (givens : List ReportedReply) (history : List Decided) (holds : AreReported givens history) where
  abbrev After : Planned → Type 0
  After came = AreReported (givens ++ map reported_reply came.outs.replies) (history ++ came.outs.decided)

  no_entry : (more : List ReportedReply) → AreReported (givens ++ more) (history ++ [])
  no_entry more i entry at = reported_more givens more entry (holds i entry (subst (λ (h : List Decided). slice_get h i ≡ Some entry) (append-nil history) at))

  on_executed : (stmt : Stmt) → After (executed site (peers.Client 0) origin text stmt)
  on_executed stmt i entry at =
      elim (get_push history new entry i at) [
        | inl p ↦ reported_more givens (reported ∷ []) entry (holds i entry p.1)
        | inr p ↦ subst (λ (e : Decided). IsReplied (givens ++ reported ∷ []) e) p.1 new_replied
      ]
    where
      outcome : Outcome
      outcome = (meaning site.held.database (execution_of (next_txn site.who site.desk) origin stmt)).1

      new : Decided
      new = record { txn = next_txn site.who site.desk; origin = origin; text = text }

      reported : ReportedReply
      reported = record { origin = origin; reply = reply_of outcome }

      new_replied : IsReplied (givens ++ reported ∷ []) new
      new_replied = record { position = length givens; given = reported; there = get_last givens reported; origin = refl; committed = is_committed site.held.database (execution_of (next_txn site.who site.desk) origin stmt) }

  reported_received : (came : Planned) → Asked site (peers.Client 0) origin text came → After came
  reported_received came (Refused reply refusal is e) = subst After (sym e) (no_entry ((record { origin = origin; reply = reply }) ∷ []))
  reported_received came (RepliedAgain reply last kept e) = subst After (sym e) (no_entry ((record { origin = origin; reply = reply }) ∷ []))
  reported_received came (Silent last kept e) = subst After (sym e) (no_entry [])
  reported_received came (NoRequest next none e) = subst After (sym e) (no_entry _)
  reported_received came (Spent next stmt reads spent e) = subst After (sym e) (no_entry [])
  reported_received came (Executed next stmt reads room e) = subst After (sym e) (on_executed stmt)

replied_law : (given : List Event) → IsLaw given (λ before site givens history. AreReported givens history)
replied_law given = record {
  first = λ i entry at. absurd (nothing_at i entry at);
  later = λ before action site givens history holds. holds;
  received = λ before site origin text came receiving delivers cases holds. reported_received site origin text (world_after before).replies (world_after before).history holds came cases;
}

pub entries_replied : (given : List Event) → Playable given → AreReported (course given).replies (course given).history
entries_replied given can =
    let whole = at_each given can (λ before site givens history. AreReported givens history) (replied_law given) can.others [] (sym (append-nil can.others)) in
    subst (λ (w : World). AreReported w.replies w.history) (sym (last_is given can)) whole.holds
