use Rattle.std.proofs.Common.{arith, refl}
use Rattle.rs_base.specs.Sizes.{groups_within}
use Rattle.rs_base.proofs.SizeLaws.{counts_more}
use Rattle.rs_exec.proofs.page.encoded_count.Goals as goal

pub loop-size-init : goal.loop-size-init
loop-size-init c = refl

pub loop-size-preserved : goal.loop-size-preserved
loop-size-preserved c = counts_more c.loop-size.size c.loop-size.rest (groups_within 9 c.args.n) (omega arith) c.if-rest-lt128.false c.loop-size.invariant
