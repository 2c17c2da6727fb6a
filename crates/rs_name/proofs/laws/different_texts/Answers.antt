use Rattle.rs_name.proofs.Whole.{one_name}
use Rattle.rs_name.proofs.laws.different_texts.Goals as goal

pub returns-clause-name : goal.returns-clause-name
returns-clause-name c = one_name
