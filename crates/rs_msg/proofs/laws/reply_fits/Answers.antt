use Rattle.rs_msg.proofs.Sizes.{reply_fits}
use Rattle.rs_msg.proofs.laws.reply_fits.Goals as goal

pub returns : goal.returns
returns c = reply_fits
