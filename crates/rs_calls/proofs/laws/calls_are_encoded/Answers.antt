use Rattle.rs_calls.proofs.Within.{call_is}
use Rattle.rs_calls.proofs.laws.calls_are_encoded.Goals as goal

pub returns : goal.returns
returns c = call_is
