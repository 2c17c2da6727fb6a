use Rattle.std.proofs.Common.{◌≡◌, ◌++◌, take}
use Rattle.std.specs.Prelude.{flat_map}
use Rattle.rs_world.specs.ReportText.{printed_reported}
use Rattle.rs_world.proofs.print.print_replies.Given as goal

abbrev pub invariant-loop-reply : goal.invariant-loop-reply
invariant-loop-reply l = l.out ≡ l.fn.out ++ flat_map printed_reported (take l.reply-index l.replies)
