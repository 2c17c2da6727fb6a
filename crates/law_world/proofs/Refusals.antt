-- Each reply of a report was true when it was given, and a text that was refused has no supported statement.
use Rattle.std.proofs.Common.{◌≡◌, ℕ, List, Some, false, IsTrue}
use Rattle.std.specs.List.{slice_get}
use Rattle.rs_base.specs.declared.reply.Reply.TheVariants as replies
use Rattle.rs_sched.specs.declared.event.Event.{Event}
use Rattle.rs_sched.specs.Schedule.{IsValid}
use Rattle.rs_course.specs.declared.report.ReportedReply.{ReportedReply}
use Rattle.rs_course.specs.Played.{are_accepted}
use Rattle.rs_site.specs.Course.{course}
use Rattle.rs_site.specs.Report.{report_of}
use Rattle.law_world.specs.Explains.{IsGivenTruly, IsNoRequest}
use Rattle.law_world.proofs.Holding.{holds_last}

pub replies_given_truly : (all : List Event) → IsValid all → IsTrue (are_accepted false all) → (k : ℕ) (given : ReportedReply) → slice_get (report_of (course all)).replies k ≡ Some given → IsGivenTruly all k given
replies_given_truly all valid are = (holds_last all valid are).holds.kept.truly

pub syntax_true : (all : List Event) → IsValid all → IsTrue (are_accepted false all)
    → (k position : ℕ) (given : ReportedReply) → slice_get (report_of (course all)).replies k ≡ Some given → given.reply ≡ replies.Syntax position → IsNoRequest all given.origin position
syntax_true all valid are = (holds_last all valid are).holds.kept.syntax_replied
