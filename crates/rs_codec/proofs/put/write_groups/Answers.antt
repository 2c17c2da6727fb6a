use Rattle.std.proofs.Common.{arith}
use Rattle.rs_codec.proofs.Groups.{writes_more, room_left, writes_tenth}
use Rattle.rs_codec.proofs.put.write_groups.Goals as goal

pub loop-at-preserved : goal.loop-at-preserved
loop-at-preserved c = record {
  below = room_left c.loop-at.at c.loop-at.rest (omega arith) c.loop-at.invariant.below;
  completes = writes_more c.loop-at.bytes c.loop-at.at c.loop-at.rest c.args.n (omega arith) c.if-rest-lt128.false c.loop-at.invariant.completes;
}

pub returns-clause-encoded : goal.returns-clause-encoded
returns-clause-encoded c = record {
  groups = writes_tenth c.loop-at.bytes c.loop-at.at c.loop-at.rest c.args.n (omega arith) (omega arith) c.loop-at.invariant.below c.loop-at.invariant.completes;
  below = c.ranges.n.fits;
}
