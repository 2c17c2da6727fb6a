use Rattle.rs_bind.proofs.AsStatements.{bound_is_as_written}
use Rattle.rs_bind.proofs.laws.bound_is_as_written.Goals as goal

pub returns : goal.returns
returns c = bound_is_as_written
