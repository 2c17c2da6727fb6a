-- A repeated reply is the first one.
use Rattle.std.proofs.Common.{◌≡◌, ℕ, List, Some, false, IsTrue}
use Rattle.std.specs.List.{slice_get}
use Rattle.rs_sched.specs.declared.event.Event.{Event}
use Rattle.rs_sched.specs.Schedule.{IsValid}
use Rattle.rs_course.specs.declared.report.ReportedReply.{ReportedReply}
use Rattle.rs_course.specs.Played.{are_accepted}
use Rattle.rs_site.specs.Course.{course}
use Rattle.rs_site.specs.Report.{report_of}
use Rattle.law_world.specs.Explains.{IsFinal}
use Rattle.law_world.proofs.Holding.{holds_last}

pub repeated_replies_agree : (all : List Event) → IsValid all → IsTrue (are_accepted false all)
    → (k l : ℕ) (a b : ReportedReply) → slice_get (report_of (course all)).replies k ≡ Some a → slice_get (report_of (course all)).replies l ≡ Some b → a.origin ≡ b.origin → IsFinal a.reply → IsFinal b.reply → a.reply ≡ b.reply
repeated_replies_agree all valid are = (holds_last all valid are).holds.kept.again
