-- The output of a received ask, case by case, keeps the facts of the replies, the entries and the sessions.
use Rattle.std.proofs.Common.{◌≡◌, ◌≤◌, ℕ, List, [], ◌∷◌, ◌++◌, length, map, Some, None, refl, sym, ap, subst, ◌∙◌, arith}
use Rattle.std.specs.Prelude.{slice_get}
use Rattle.std.proofs.lemmas.List.{append-nil}
use Rattle.rs_base.specs.declared.peer.Peer.{Peer}
use Rattle.rs_base.specs.declared.txn.Origin.{Origin}
use Rattle.rs_base.specs.declared.reply.Reply.{Reply}
use Rattle.rs_base.specs.declared.reply.Reply.TheVariants as replies
use Rattle.rs_ast.specs.declared.stmt.Stmt.{Stmt}
use Rattle.rs_site.specs.Statement.{statement_of, offset_replied}
use Rattle.rs_site.proofs.Said.{reported_nothing}
use Rattle.rs_mean.specs.declared.execution.Execution.{Execution}
use Rattle.rs_mean.specs.Database.{Database}
use Rattle.rs_mean.specs.Meaning.{meaning}
use Rattle.rs_mean.specs.Outcome.{Outcome, Done, Denied, Shown}
use Rattle.rs_sched.specs.declared.event.Event.{Event}
use Rattle.rs_course.specs.declared.outs.Decided.{Decided}
use Rattle.rs_session.specs.Sessions.{session_of}
use Rattle.rs_site.specs.Planned.{Planned}
use Rattle.rs_site.specs.State.{SiteState, next_txn}
use Rattle.rs_site.specs.Asking.{reply_of, execution_of, executed, remembering, with_reply}
use Rattle.rs_site.specs.Truth.{IsTrueReply}
use Rattle.rs_site.proofs.Asked.{Asked, Refused, RepliedAgain, Silent, NoRequest, Spent, Executed, IsRefusal, IsLast, IsNext}
use Rattle.rs_course.specs.declared.report.ReportedReply.{ReportedReply}
use Rattle.rs_course.specs.Course.{Action, reported_reply}
use Rattle.rs_course.specs.Moments.{ask_input}
use Rattle.rs_site.specs.Moments.{world_after, Receives}
use Rattle.law_world.specs.Explains.{IsFinal, IsCommitted, IsGivenTruly, IsNoRequest}
use Rattle.rs_mean.proofs.Meanings.{done_or_denied}
use Rattle.law_world.proofs.Kept.{Kept, IsKeepable, IsEntered, last_origin, same_origin, said, remembered, kept_then}

-- ---- replies by their kinds

true_if_keepable : (site : SiteState) (origin : Origin) (reply : Reply) → IsKeepable reply → IsTrueReply site origin reply
true_if_keepable site origin (replies.Done answered) may = tt
true_if_keepable site origin (replies.Denied cause) may = tt
true_if_keepable site origin (replies.Failed reason) may = may
true_if_keepable site origin (replies.Shown lines) may = may
true_if_keepable site origin (replies.Syntax position) may = tt
true_if_keepable site origin (replies.OldEpoch epoch) may = absurd may
true_if_keepable site origin (replies.OldRequest last) may = absurd may
true_if_keepable site origin (replies.Gap last) may = absurd may

-- a refusal is neither final nor committed
pub refusal_is_not_final : (reply : Reply) → IsRefusal reply → IsFinal reply → ⊥
refusal_is_not_final (replies.Done answered) is final = is
refusal_is_not_final (replies.Denied cause) is final = is
refusal_is_not_final (replies.Failed reason) is final = is
refusal_is_not_final (replies.Shown lines) is final = is
refusal_is_not_final (replies.Syntax position) is final = is
refusal_is_not_final (replies.OldEpoch epoch) is final = final
refusal_is_not_final (replies.OldRequest last) is final = final
refusal_is_not_final (replies.Gap last) is final = final

pub committed_is_final : (reply : Reply) → IsCommitted reply → IsFinal reply
committed_is_final (replies.Done answered) is = tt
committed_is_final (replies.Denied cause) is = tt
committed_is_final (replies.Failed reason) is = absurd is
committed_is_final (replies.Shown lines) is = absurd is
committed_is_final (replies.Syntax position) is = absurd is
committed_is_final (replies.OldEpoch epoch) is = absurd is
committed_is_final (replies.OldRequest last) is = absurd is
committed_is_final (replies.Gap last) is = absurd is

refusal_is_no_syntax : (reply : Reply) (position : ℕ) → IsRefusal reply → reply ≡ replies.Syntax position → ⊥
refusal_is_no_syntax reply position is e = subst IsRefusal e is

keepable_outcome : (db : Database) (execution : Execution) → IsKeepable (reply_of (meaning db execution).1)
keepable_outcome db execution = done_or_denied db execution (λ outcome. IsKeepable (reply_of outcome)) (λ given. tt) (λ cause. tt)

outcome_is_no_syntax : (outcome : Outcome) (position : ℕ) → reply_of outcome ≡ replies.Syntax position → ⊥
outcome_is_no_syntax (Done given) position e = cc
outcome_is_no_syntax (Denied cause) position e = cc
outcome_is_no_syntax Shown position e = cc

pub get_last : {X : Type 0} (xs : List X) (x : X) → slice_get (xs ++ x ∷ []) (length xs) ≡ Some x
get_last [] x = refl
get_last (y ∷ ys) x = get_last ys x

---- an ask is received

module _ (all : List Event) (before : List Action) (action : Action) (site : SiteState) (from : Peer) (origin : Origin) (text : List ℕ) (receives : Receives all before action site origin text)
    (short : length text ≤ 8192) (home : origin.site ≡ site.who.me) (reports : List ReportedReply) (history : List Decided) (number : length (world_after before).replies ≡ length reports)
    (holds : Kept all site reports history) where
  abbrev replied_as : Reply → ReportedReply
  replied_as reply = record { origin = origin; reply = reply }

  -- the action by which it is received gives these replies
  abbrev Gives : List ReportedReply → Type 0
  Gives more = (world_after (before ++ action ∷ [])).replies ≡ reports ++ more

  abbrev After : Planned → Type 0
  After came = Gives (map reported_reply came.outs.replies) → Kept all came.after (reports ++ map reported_reply came.outs.replies) (history ++ came.outs.decided)

  truly_as : (reply : Reply) → Gives (replied_as reply ∷ []) → IsTrueReply site origin reply → IsGivenTruly all (length reports) (replied_as reply)
  truly_as reply gives is = record {
    before = before;
    action = action;
    site = site;
    input = ask_input origin text;
    step = receives.step;
    home = receives.home;
    first = omega (arith, number);
    gives = ap (λ (gs : List ReportedReply). slice_get gs (length reports)) gives ∙ get_last reports (replied_as reply);
    true = is;
  }

  without_entry : (more : List ReportedReply) → Kept all site (reports ++ more) history → Kept all site (reports ++ more) (history ++ [])
  without_entry more kept = subst (λ (h : List Decided). Kept all site (reports ++ more) h) (sym (append-nil history)) kept

  on_nothing : Gives [] → Kept all site (reports ++ []) (history ++ [])
  on_nothing gives = without_entry [] (subst (λ (t : List ReportedReply). Kept all site t history) (sym (append-nil reports)) holds)

  on_refusal : (reply : Reply) → IsRefusal reply → IsTrueReply site origin reply → Gives (replied_as reply ∷ []) → Kept all site (reports ++ replied_as reply ∷ []) (history ++ [])
  on_refusal reply refusal is gives = without_entry (replied_as reply ∷ []) (said all site reports history holds (replied_as reply) (truly_as reply gives is)
      (λ position e. absurd (refusal_is_no_syntax reply position refusal e))
      (λ final. absurd (refusal_is_not_final reply refusal final))
      (λ committed. absurd (refusal_is_not_final reply refusal (committed_is_final reply committed))))

  on_repeat : (reply : Reply) → IsLast site origin → (session_of origin.user site.desk.sessions).reply ≡ Some reply → Gives (replied_as reply ∷ []) → Kept all site (reports ++ replied_as reply ∷ []) (history ++ [])
  on_repeat reply last kept gives =
      let is : last_origin site origin.user ≡ origin = same_origin (last_origin site origin.user) origin (sym home) refl (sym last.epoch) (sym last.number) in
      without_entry (replied_as reply ∷ []) (said all site reports history holds (replied_as reply) (truly_as reply gives (true_if_keepable site origin reply (holds.keepable origin.user reply kept)))
      (λ position e. subst (λ (o : Origin). IsNoRequest all o position) is (holds.syntax_kept origin.user position (kept ∙ ap (λ (r : Reply). Some r) e)))
      (λ final. record { number = last.number; reply = kept })
      (λ committed. subst (λ (o : Origin). IsEntered history o) is (holds.entered_kept origin.user reply kept committed)))

  on_accepted : IsNext site origin → (reply : Reply) → (after : SiteState) → after.who ≡ site.who → after.desk.sessions ≡ (remembering site.desk origin reply).sessions → (more : List Decided)
      → IsKeepable reply → ((position : ℕ) → reply ≡ replies.Syntax position → IsNoRequest all origin position) → (IsCommitted reply → IsEntered (history ++ more) origin)
      → Gives (replied_as reply ∷ []) → Kept all after (reports ++ replied_as reply ∷ []) (history ++ more)
  on_accepted next reply after who sessions more may syntax_is entered gives =
      said all after reports (history ++ more) (remembered all site reports history holds origin home next reply after who sessions more may syntax_is entered) (replied_as reply)
      (truly_as reply gives (true_if_keepable site origin reply may)) syntax_is
      (λ final. kept_then all site reports history holds origin home next reply after who sessions more may syntax_is entered) entered

  on_no_request : IsNext site origin → statement_of text ≡ None → Gives (replied_as (replies.Syntax (offset_replied text)) ∷ []) → Kept all (with_reply origin (replies.Syntax (offset_replied text)) site) (reports ++ replied_as (replies.Syntax (offset_replied text)) ∷ []) (history ++ [])
  on_no_request next none gives =
      let no_request : IsNoRequest all origin (offset_replied text) = record { text = text; accepts = record { before = before; action = action; site = site; receives = receives; epoch = next.epoch; number = next.number }; no_request = none; says = reported_nothing text short none } in
      on_accepted next (replies.Syntax (offset_replied text)) (with_reply origin (replies.Syntax (offset_replied text)) site) refl refl [] tt
      (λ position e. let same : offset_replied text ≡ position = cc in subst (IsNoRequest all origin) same no_request)
      (λ committed. absurd committed) gives

  on_executed : IsNext site origin → (stmt : Stmt) → After (executed site from origin text stmt)
  on_executed next stmt gives =
      let outcome : Outcome = (meaning site.held.database (execution_of (next_txn site.who site.desk) origin stmt)).1 in
      let entry : Decided = record { txn = next_txn site.who site.desk; origin = origin; text = text } in
      on_accepted next (reply_of outcome) (executed site from origin text stmt).after refl refl (entry ∷ []) (keepable_outcome site.held.database (execution_of (next_txn site.who site.desk) origin stmt))
      (λ position e. absurd (outcome_is_no_syntax outcome position e))
      (λ committed. record { position = length history; entry = entry; there = get_last history entry; origin = refl }) gives

  pub reported_keeps : (came : Planned) → Asked site from origin text came → After came
  reported_keeps came (Refused reply refusal is e) = subst After (sym e) (on_refusal reply refusal is)
  reported_keeps came (RepliedAgain reply last kept e) = subst After (sym e) (on_repeat reply last kept)
  reported_keeps came (Silent last kept e) = subst After (sym e) on_nothing
  reported_keeps came (NoRequest next none e) = subst After (sym e) (on_no_request next none)
  reported_keeps came (Spent next stmt reads spent e) = subst After (sym e) on_nothing
  reported_keeps came (Executed next stmt reads room e) = subst After (sym e) (on_executed next stmt)
