use Rattle.std.proofs.Common.{List, ℕ, length, take, drop, ◌+◌, ◌≤◌, sym, ap, ◌∙◌, subst, leb-true}
use Rattle.rs_disk.specs.declared.call.Call.TheVariants as calls
use Rattle.rs_disk.specs.Disk.{content_of}
use Rattle.rs_disk.proofs.Answers.{answers, plain}
use Rattle.rs_disk.proofs.mem_disk.MemDiskDisk.read_at.Goals as goal
use Rattle.std.specs.Prelude.{⊤, Err}

pub copy_to-requires : goal.copy_to-requires
copy_to-requires c =
    let by = plain (calls.Read c.args.at (length c.args.into.now)) c.args.self.now c.call.new.self tt c.in-Ok.ensures.called in
    let within = leb-true (c.args.at + length c.args.into.now) (length (content_of c.args.self.now.acts)) by.1 in
    subst (λ (bytes : List ℕ). c.args.at + length c.args.into.now ≤ length bytes) (sym by.0) within

pub returns-in-Ok-clause-bytes : goal.returns-in-Ok-clause-bytes
returns-in-Ok-clause-bytes c =
    let by = plain (calls.Read c.args.at (length c.args.into.now)) c.args.self.now c.call.new.self tt c.in-Ok.ensures.called in
    c.copy_to.ensures ∙ ap (λ (bytes : List ℕ). take (length c.args.into.now) (drop c.args.at bytes)) by.0

pub returns-in-Err-clause-call : goal.returns-in-Err-clause-call
returns-in-Err-clause-call c =
    answers (calls.Read c.args.at (length c.args.into.now)) c.args.self.now c.call.new.self {X = ⊤} (Err c.in-Err.fault) c.in-Err.ensures.state c.in-Err.ensures.called
