use Rattle.rs_parse.proofs.ParseLaws.{parse_found, parse_only, parse_fault, parse_keeps}
use Rattle.rs_parse.proofs.parser.parse.Goals as goal

pub returns-clause-found : goal.returns-clause-found
returns-clause-found c = parse_found _ _ c.read.ensures

pub returns-clause-only : goal.returns-clause-only
returns-clause-only c = parse_only _ _ c.read.ensures

pub returns-clause-fault : goal.returns-clause-fault
returns-clause-fault c = parse_fault _ _ c.read.ensures

pub returns-clause-limits : goal.returns-clause-limits
returns-clause-limits c = parse_keeps _ _ c.read.ensures
