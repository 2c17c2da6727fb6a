use Rattle.rs_name.proofs.Whole.{printed_is_read}
use Rattle.rs_name.proofs.laws.read_is_printed.Goals as goal

pub returns : goal.returns
returns c = printed_is_read
