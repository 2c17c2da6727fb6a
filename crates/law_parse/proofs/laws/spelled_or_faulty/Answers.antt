use Rattle.law_parse.proofs.OnceLaws.{spelled_or_faulty}
use Rattle.law_parse.proofs.laws.spelled_or_faulty.Goals as goal

pub returns : goal.returns
returns c = spelled_or_faulty
