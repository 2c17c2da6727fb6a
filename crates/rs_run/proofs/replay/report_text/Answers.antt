use Rattle.std.proofs.Common.{ℕ, List, ap, subst, ◌∙◌}
use Rattle.rs_sched.specs.declared.event.Event.{Event}
use Rattle.rs_course.specs.declared.report.Report.{Report}
use Rattle.rs_site.specs.Course.{course}
use Rattle.rs_site.specs.Report.{report_of}
use Rattle.rs_site.specs.World.{World}
use Rattle.rs_world.specs.ReportText.{printed_report}
use Rattle.rs_run.specs.Refusal.{IsSource}
use Rattle.rs_run.proofs.RunLaws.{reported}
use Rattle.rs_run.proofs.replay.report_text.Goals as goal

pub returns-clause-reported : goal.returns-clause-reported
returns-clause-reported c =
    let source : IsSource c.args.bytes c.in_ok-events.events = subst (λ (bytes : List ℕ). IsSource bytes c.in_ok-events.events) c.as_slice.ensures c.in_ok-events.ensures.found in
    reported c.args.bytes c.in_ok-print_report.field-0 c.in_ok-events.events source
    (c.in_ok-print_report.ensures
    ∙ ap (λ (report : Report). printed_report report) c.in_ok-report.ensures
    ∙ ap (λ (world : World). printed_report (report_of world)) c.in_ok-world.ensures
    ∙ ap (λ (given : List Event). printed_report (report_of (course given))) c.as_slice-2.ensures)
