use Rattle.rs_call.proofs.CallerLaws.{numbers_count_up}
use Rattle.rs_call.proofs.laws.numbers_count_up.Goals as goal

pub returns : goal.returns
returns g c = numbers_count_up _
