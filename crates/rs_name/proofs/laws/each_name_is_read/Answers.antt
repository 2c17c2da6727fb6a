use Rattle.rs_name.proofs.Whole.{printed_read}
use Rattle.rs_name.proofs.laws.each_name_is_read.Goals as goal

pub returns : goal.returns
returns c = printed_read
