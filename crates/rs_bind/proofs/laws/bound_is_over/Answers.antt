use Rattle.rs_bind.proofs.Over.{bound_is_over}
use Rattle.rs_bind.proofs.laws.bound_is_over.Goals as goal

pub returns : goal.returns
returns c = bound_is_over
