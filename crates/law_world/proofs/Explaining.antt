-- The report of the course explains each valid and accepted list of events.
use Rattle.std.proofs.Common.{◌≡◌, ℕ, ◌+◌, false, List, length, take, Some, IsTrue, refl, sym, ap, subst, ◌∙◌}
use Rattle.std.specs.List.{slice_get}
use Rattle.rs_base.specs.declared.reply.Denial.{Denial}
use Rattle.rs_sched.specs.declared.event.Event.{Event}
use Rattle.rs_sched.specs.Schedule.{IsValid}
use Rattle.rs_course.specs.declared.report.SiteView.{SiteView}
use Rattle.rs_site.specs.Course.{course}
use Rattle.rs_site.specs.History.{database_of, outcome_after}
use Rattle.rs_course.specs.Moments.{actions, sites_of}
use Rattle.rs_site.specs.Moments.{world_after}
use Rattle.rs_course.specs.Played.{are_accepted}
use Rattle.rs_site.specs.Report.{report_of}
use Rattle.rs_site.specs.Tables.{tables_at}
use Rattle.rs_site.specs.World.{World}
use Rattle.rs_mean.specs.Database.{Database, IsInOrder}
use Rattle.rs_mean.specs.Expected.{expected}
use Rattle.rs_mean.specs.Outcome.{Denied}
use Rattle.rs_site.specs.State.{SiteState}
use Rattle.rs_course.specs.declared.outs.Decided.{Decided}
use Rattle.law_world.specs.Explains.{Explains, IsMeaningAt}
use Rattle.law_world.proofs.Added.{entries_added}
use Rattle.law_world.proofs.Growing.{no_runs}
use Rattle.law_world.proofs.HistoryFields as history
use Rattle.law_world.proofs.Played.{playable, sites_one, course_is}
use Rattle.law_world.proofs.Refusals.{replies_given_truly, syntax_true}
use Rattle.law_world.proofs.Reported.{after_what_was_reported}
use Rattle.law_world.proofs.RepliedAgain.{repeated_replies_agree}
use Rattle.law_world.proofs.Tables.{tables_typed, tables_placed}

pub explains : (given : List Event) → IsValid given → IsTrue (are_accepted false given) → Explains given (report_of (course given))
explains given valid are =
    let can = playable given valid are in
    let one : 1 ≡ sites_of given = sym (sites_one given valid are) in
    record {
      from_last_state = refl;
      entries_distinct = history.entries_distinct given can;
      entries_asked = history.entries_asked given can;
      entries_added = entries_added given;
      history_grows = history.history_grows given;
      history_is_last = history.history_is_last given;
      answers_are_meaning = λ k reported at committed. subst (λ (n : ℕ). (i : ℕ) × IsMeaningAt n (course given).history i reported) one (history.answers_are_meaning given can k reported at committed);
      denied_changes_nothing = subst (λ (n : ℕ). DeniedChangesNothing n (course given).history) one (history.denied_changes_nothing (course given).history);
      after_what_was_reported = after_what_was_reported given valid are (history.entries_distinct given can) (history.grows_to_last given);
      replies_given_truly = replies_given_truly given valid are;
      syntax_true = syntax_true given valid are;
      repeated_replies_agree = repeated_replies_agree given valid are;
      runs_stand = ap (λ (w : World). w.runs) (course_is given) ∙ no_runs (actions given);
      stores_follow = λ before suffix number site what separated at applied.
          ap (λ (db : Database). expected db site.who.me what) (subst (λ (n : ℕ). site.held.database ≡ database_of n (world_after before).history) one (history.databases_follow given can before suffix number site separated at));
      sites_shown = ap (λ (views : List SiteView). length views) (history.sites_are given can) ∙ one;
      views_agree = λ i site at applied. subst (λ (n : ℕ). IsShown n (course given) i site) one (history.views_agree given can i site at);
      tables_typed = tables_typed (sites_of given) (course given).history;
      tables_placed = tables_placed (sites_of given) (course given).history;
      tables_in_order = subst (λ (n : ℕ). IsInOrder (database_of n (course given).history)) one (history.tables_in_order given can);
    }
  where
    DeniedChangesNothing : ℕ → List Decided → Type 0
    DeniedChangesNothing n history = (i : ℕ) (entry : Decided) (cause : Denial) → slice_get history i ≡ Some entry → outcome_after n (take i history) entry ≡ Some (Denied cause)
        → database_of n (take (i + 1) history) ≡ database_of n (take i history)

    IsShown : ℕ → World → ℕ → SiteState → Type 0
    IsShown n world i site = slice_get (report_of world).sites i ≡ Some (record { site = i + 1; up = Some site.who.epoch; tables = tables_at (i + 1) (database_of n world.history) })
