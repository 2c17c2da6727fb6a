use Rattle.std.proofs.Common.{sym, ◌∙◌}
use Rattle.rs_disk.specs.declared.call.Act.TheVariants as acts
use Rattle.rs_disk.specs.Disk.{state_of}
use Rattle.rs_disk.proofs.Kept.{pushed, plain_done}
use Rattle.rs_disk.proofs.mem_disk.MemDisk.note.Goals as goal

pub invariant_of-self-2 : goal.invariant_of-self-2
invariant_of-self-2 c =
    let was = c.self.inside.acts in
    let next = pushed was c.push.new.self (acts.Done c.args.call) c.in_ok-push.ensures.ok in
    record {
      state = c.self.invariant.state ∙ sym (plain_done c.args.call (state_of was) c.requires) ∙ sym next;
      content = c.self.invariant.content;
      in_range = c.self.invariant.in_range;
    }
