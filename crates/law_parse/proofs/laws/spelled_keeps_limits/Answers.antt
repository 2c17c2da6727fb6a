use Rattle.rs_parse.proofs.ParseLaws.{spelled_keeps_limits}
use Rattle.law_parse.proofs.laws.spelled_keeps_limits.Goals as goal

pub returns : goal.returns
returns c = spelled_keeps_limits
