use Rattle.std.proofs.Common.{◌∙◌}
use Rattle.rs_name.proofs.Whole.{forth, found_is}
use Rattle.rs_name.proofs.reading.parse_swn.Goals as goal

pub returns-clause-found : goal.returns-clause-found
returns-clause-found c = found_is c.args.bytes.now c.swn_of.result c.swn_of.ensures

pub returns-clause-only : goal.returns-clause-only
returns-clause-only c = λ name is. c.swn_of.ensures ∙ forth c.args.bytes.now name is
