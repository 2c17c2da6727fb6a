use Rattle.std.proofs.Common.{sym, ap, subst, ◌∙◌}
use Rattle.rs_disk.specs.declared.call.Act.TheVariants as acts
use Rattle.rs_disk.specs.Disk.{settled, content}
use Rattle.rs_disk.specs.Images.{IsInRange}
use Rattle.rs_disk.proofs.Kept.{pushed}
use Rattle.rs_disk.proofs.mem_disk.MemDisk.fail.Goals as goal

pub invariant_of-self-2 : goal.invariant_of-self-2
invariant_of-self-2 c =
    let next = pushed c.self.inside.acts c.push.new.self (acts.Failed c.args.call c.in_ok-left.left) c.in_ok-push.ensures.ok in
    let is = c.in_ok-state.ensures ∙ ap settled c.deref-3.ensures.value in
    let left = c.in_ok-left.ensures ∙ ap settled c.deref-2.ensures.value in
    record { state = is ∙ sym left ∙ sym next; content = sym (ap content is); in_range = subst IsInRange (sym is) tt }
