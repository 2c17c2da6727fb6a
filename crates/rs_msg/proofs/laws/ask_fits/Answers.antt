use Rattle.rs_msg.proofs.Sizes.{ask_fits}
use Rattle.rs_msg.proofs.laws.ask_fits.Goals as goal

pub returns : goal.returns
returns c = ask_fits
