use Rattle.law_parse.proofs.OnceLaws.{statement_once}
use Rattle.law_parse.proofs.laws.statement_once.Goals as goal

pub returns : goal.returns
returns c = statement_once
