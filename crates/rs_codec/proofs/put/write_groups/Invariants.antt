use Rattle.std.proofs.Common.{◌*◌, ◌-◌, ◌^◌, ◌<◌, take}
use Rattle.rs_codec.proofs.Groups.{Completes}
use Rattle.rs_codec.proofs.put.write_groups.Given as goal

abbrev pub invariant-loop-at : goal.invariant-loop-at
invariant-loop-at l = record {
  below : l.rest < 2 * 128 ^ (9 - l.at);
  completes : Completes (take l.at l.bytes) l.rest l.n;
}
