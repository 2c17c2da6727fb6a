use Rattle.std.proofs.Common.{◌≡◌, ◌+◌, ◌*◌, ◌^◌, ◌≤◌, take}
use Rattle.rs_token.specs.Tokens.{digits_value}
use Rattle.rs_token.proofs.scanner.digits_value.Given as goal

abbrev pub invariant-loop-digit : goal.invariant-loop-digit
invariant-loop-digit l = (l.value ≡ digits_value (take l.digit-index l.digits)) × (l.value + 23 ≤ 23 * 10 ^ l.digit-index)
