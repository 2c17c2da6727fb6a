use Rattle.std.proofs.Common.{◌≡◌, ◌-◌, ◌≤◌, length}
use Rattle.rs_token.specs.Tokens.{split_suffix, split_of}
use Rattle.rs_token.proofs.Scans.{with_found}
use Rattle.rs_token.proofs.tokenizer.split.Given as goal

abbrev pub invariant-loop-starts : goal.invariant-loop-starts
invariant-loop-starts l =
    (length l.scanner ≤ length l.text)
    × (with_found l.tokens l.starts (split_suffix (length l.text - length l.scanner) 0 l.scanner) ≡ split_of l.text)

abbrev pub decreases-loop-starts : goal.decreases-loop-starts
decreases-loop-starts l = length l.scanner
