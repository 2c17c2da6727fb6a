use Rattle.std.proofs.Common.{reverse, take}
use Rattle.rs_commit.proofs.Played.{IsPlayed}
use Rattle.rs_commit.proofs.play.agree.Given as goal

abbrev pub invariant-loop-event : goal.invariant-loop-event
invariant-loop-event l = IsPlayed l.parts (reverse (take l.event-index l.events)) l.play
