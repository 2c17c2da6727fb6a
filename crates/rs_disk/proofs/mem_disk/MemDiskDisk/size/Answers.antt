use Rattle.std.proofs.Common.{length, ap, ◌∙◌}
use Rattle.std.specs.Prelude.{⊤, Err}
use Rattle.rs_disk.specs.declared.call.Call.TheVariants as calls
use Rattle.rs_disk.proofs.Answers.{answers, plain}
use Rattle.rs_disk.proofs.mem_disk.MemDiskDisk.size.Goals as goal

pub returns-in-Err-clause-call : goal.returns-in-Err-clause-call
returns-in-Err-clause-call c = answers calls.Size c.args.self.now c.call.new.self {X = ⊤} (Err c.in-Err.fault) c.in-Err.ensures.state c.in-Err.ensures.called

pub returns-clause-size : goal.returns-clause-size
returns-clause-size c =
    let by = plain calls.Size c.args.self.now c.call.new.self tt c.in_default.ensures.called in
    ap length (c.content.ensures ∙ by.0)
