use Rattle.std.proofs.Common.{◌≡◌, length}
use Rattle.rs_base.specs.Reading.{with_prefix}
use Rattle.rs_token.specs.Tokens.{quoted_at}
use Rattle.rs_token.proofs.scanner.Scanner.quoted.Given as goal

abbrev pub invariant-loop-self : goal.invariant-loop-self
invariant-loop-self l = with_prefix l.found (quoted_at l.self-inside.left.now) ≡ quoted_at l.fn.self

abbrev pub decreases-loop-self : goal.decreases-loop-self
decreases-loop-self l = length l.self-inside.left.now
