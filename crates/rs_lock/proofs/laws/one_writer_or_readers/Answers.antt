use Rattle.rs_lock.proofs.LawProofs.{one_writer_or_readers}
use Rattle.rs_lock.proofs.laws.one_writer_or_readers.Goals as goal

pub returns : goal.returns
returns c = one_writer_or_readers
