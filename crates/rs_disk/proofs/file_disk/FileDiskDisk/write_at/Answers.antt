use Rattle.rs_disk.proofs.Answers.{no_course}
use Rattle.rs_disk.proofs.file_disk.FileDiskDisk.write_at.Goals as goal

pub returns-clause-call : goal.returns-clause-call
returns-clause-call c = no_course _ _
