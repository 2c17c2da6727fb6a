use Rattle.std.proofs.Common.{◌≡◌, map}
use Rattle.std.specs.List.{range_with_len}
use Rattle.rs_commit.specs.Play.{enlist_of}
use Rattle.rs_commit.proofs.play.enlists_of.Given as goal

abbrev pub invariant-loop-number : goal.invariant-loop-number
invariant-loop-number l = l.enlists ≡ map enlist_of (range_with_len 0 l.number)
