use Rattle.rs_session.proofs.Divided.{part_fits}
use Rattle.rs_session.proofs.part_laws.part_fits.Goals as goal

pub returns : goal.returns
returns c = part_fits
