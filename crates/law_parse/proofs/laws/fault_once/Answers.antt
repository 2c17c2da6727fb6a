use Rattle.law_parse.proofs.OnceLaws.{fault_once}
use Rattle.law_parse.proofs.laws.fault_once.Goals as goal

pub returns : goal.returns
returns c = fault_once
