use Rattle.std.proofs.Common.{length}
use Rattle.rs_codec.proofs.fields.+groups.Given as goal

abbrev pub decreases-groups : goal.decreases-groups
decreases-groups l = length l.bytes.now
