use Rattle.rs_disk.specs.declared.call.Call.TheVariants as calls
use Rattle.rs_disk.proofs.Answers.{answers}
use Rattle.rs_disk.proofs.mem_disk.MemDiskDisk.cut.Goals as goal

pub returns-clause-call : goal.returns-clause-call
returns-clause-call c = answers (calls.Cut c.args.len) c.args.self.now c.call.new.self c.call.result c.call.ensures.state c.call.ensures.called
