use Rattle.std.proofs.Common.{[], arith}
use Rattle.rs_log.proofs.Scans.{found_closed}
use Rattle.rs_log.proofs.laws.what_is_written_is_read.Goals as goal

pub returns : goal.returns
returns c batches fits = found_closed batches 0 [] fits (omega arith)
