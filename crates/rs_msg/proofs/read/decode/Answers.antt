use Rattle.rs_msg.proofs.Whole.{found_is, only_it}
use Rattle.rs_msg.proofs.read.decode.Goals as goal

pub returns-clause-found : goal.returns-clause-found
returns-clause-found c = found_is c.args.bytes.now c.read_whole.result c.read_whole.ensures

pub returns-clause-only : goal.returns-clause-only
returns-clause-only c = λ message is. only_it c.args.bytes.now c.read_whole.result message c.read_whole.ensures is
