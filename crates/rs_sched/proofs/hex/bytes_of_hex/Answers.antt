use Rattle.std.proofs.Common.{sym, ◌∙◌}
use Rattle.rs_sched.specs.Numbers.{bytes_of_hex}
use Rattle.rs_sched.proofs.HexLaws.{hex_more}
use Rattle.rs_sched.proofs.hex.bytes_of_hex.Goals as goal

pub loop-left-preserved : goal.loop-left-preserved
loop-left-preserved c = rw c.in_ok-push.ensures.ok (hex_more c.loop-left.bytes c.loop-left.left.now c.in-Some.byte (bytes_of_hex c.args.digits.now) c.in-len2-up.len_at_least (sym c.hex_pair.ensures ∙ c.in-Some.is) c.loop-left.invariant)
