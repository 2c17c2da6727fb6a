use Rattle.std.proofs.Common.{List, ℕ, subst}
use Rattle.rs_disk.specs.declared.call.Call.TheVariants as calls
use Rattle.rs_disk.specs.Answers.{Answers}
use Rattle.rs_disk.proofs.Answers.{answers}
use Rattle.rs_disk.proofs.mem_disk.MemDiskDisk.write_at.Goals as goal
use Rattle.std.specs.Prelude.{Some}

pub returns-clause-call : goal.returns-clause-call
returns-clause-call c = subst (λ (bytes : List ℕ). Answers c.call.result (calls.Write c.args.at bytes) (Some c.args.self.now.acts) (Some c.call.new.self.acts)) c.in_ok-bytes.ensures
    (answers (calls.Write c.args.at c.in_ok-bytes.bytes) c.args.self.now c.call.new.self c.call.result c.call.ensures.state c.call.ensures.called)
