use Rattle.rs_parse.proofs.ParseLaws.{end_short, offset_short}
use Rattle.rs_parse.proofs.parser.read.Goals as goal

pub fault_at-requires : goal.fault_at-requires
fault_at-requires c = end_short c.args.text.now c.in_ok-split.split c.requires c.in_ok-split.ensures

pub fault_at-requires-in-Err-Malformed : goal.fault_at-requires-in-Err-Malformed
fault_at-requires-in-Err-Malformed c = offset_short c.args.text.now c.in_ok-split.split _ c.offset.result c.requires c.in_ok-split.ensures c.offset.ensures
