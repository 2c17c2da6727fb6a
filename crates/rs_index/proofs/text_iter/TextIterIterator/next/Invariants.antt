use Rattle.std.proofs.Common.{◌≡◌, [], ◌++◌, length, unwrap_or}
use Rattle.rs_index.specs.TextPairs.{numbers_of}
use Rattle.rs_index.proofs.text_iter.TextIterIterator.next.Given as goal

abbrev pub invariant-loop-self : goal.invariant-loop-self
invariant-loop-self l = unwrap_or l.self-inside.numbers [] ++ numbers_of l.self-inside.sets ≡ l.fn.self

abbrev pub decreases-loop-self : goal.decreases-loop-self
decreases-loop-self l = length l.self-inside.sets
