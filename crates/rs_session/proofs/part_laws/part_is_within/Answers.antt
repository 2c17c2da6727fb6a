use Rattle.rs_session.proofs.Divided.{part_is_within}
use Rattle.rs_session.proofs.part_laws.part_is_within.Goals as goal

pub returns : goal.returns
returns c = part_is_within
