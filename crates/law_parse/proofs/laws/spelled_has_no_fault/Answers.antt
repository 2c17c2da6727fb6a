use Rattle.law_parse.proofs.OnceLaws.{spelled_no_fault}
use Rattle.law_parse.proofs.laws.spelled_has_no_fault.Goals as goal

pub returns : goal.returns
returns c = spelled_no_fault
