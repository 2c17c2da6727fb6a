use Rattle.rs_calls.proofs.Within.{change_is}
use Rattle.rs_calls.proofs.laws.changes_are_encoded.Goals as goal

pub returns : goal.returns
returns c = change_is
