use Rattle.std.proofs.Common.{◌≡◌, ◌++◌, drop}
use Rattle.rs_unparse.specs.Printed.{printed_after, printed_tokens}
use Rattle.rs_unparse.proofs.print.put_tokens.Given as goal

abbrev pub invariant-loop-token : goal.invariant-loop-token
invariant-loop-token l = l.out ++ printed_after l.ending (drop l.token-index l.tokens) ≡ l.fn.out ++ printed_tokens l.tokens
