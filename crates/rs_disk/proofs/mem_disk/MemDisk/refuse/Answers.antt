use Rattle.std.proofs.Common.{sym, ◌∙◌}
use Rattle.rs_disk.specs.declared.call.Act.TheVariants as acts
use Rattle.rs_disk.proofs.Kept.{pushed}
use Rattle.rs_disk.proofs.mem_disk.MemDisk.refuse.Goals as goal

pub invariant_of-self-2 : goal.invariant_of-self-2
invariant_of-self-2 c =
    let next = pushed c.self.inside.acts c.push.new.self (acts.Refused c.args.call) c.in_ok-push.ensures.ok in
    record { state = c.self.invariant.state ∙ sym next; content = c.self.invariant.content; in_range = c.self.invariant.in_range }
