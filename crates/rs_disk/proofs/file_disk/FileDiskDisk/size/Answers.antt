use Rattle.rs_disk.proofs.file_disk.FileDiskDisk.size.Goals as goal

pub returns-clause-call : goal.returns-clause-call
returns-clause-call c = tt
