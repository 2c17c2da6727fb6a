use Rattle.rs_session.proofs.Divided.{has_each_part}
use Rattle.rs_session.proofs.part_laws.has_each_part.Goals as goal

pub returns : goal.returns
returns c = has_each_part
