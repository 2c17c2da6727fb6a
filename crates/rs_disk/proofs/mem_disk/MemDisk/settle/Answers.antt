use Rattle.std.proofs.Common.{sym, ap, subst, ◌∙◌}
use Rattle.rs_disk.specs.declared.call.Call.TheVariants as calls
use Rattle.rs_disk.specs.declared.call.Act.TheVariants as acts
use Rattle.rs_disk.specs.Disk.{settled, content}
use Rattle.rs_disk.specs.Images.{IsInRange}
use Rattle.rs_disk.proofs.Kept.{pushed}
use Rattle.rs_disk.proofs.mem_disk.MemDisk.settle.Goals as goal

pub invariant_of-self-2 : goal.invariant_of-self-2
invariant_of-self-2 c =
    let was = c.self.inside.acts in
    let next = pushed was c.push.new.self (acts.Done calls.Sync) c.in_ok-push.ensures.ok in
    let is = c.in_ok-state.ensures ∙ ap settled c.deref.ensures.value in
    record {
      state = is ∙ ap settled (c.self.invariant.content ∙ ap content c.self.invariant.state) ∙ sym next;
      content = sym (ap content is);
      in_range = subst IsInRange (sym is) tt;
    }
