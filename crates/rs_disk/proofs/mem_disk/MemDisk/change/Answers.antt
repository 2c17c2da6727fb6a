use Rattle.std.proofs.Common.{◌≡◌, IsTrue, List, [], ◌∷◌, ◌++◌, sym, ap, subst, ◌∙◌}
use Rattle.rs_disk.specs.declared.call.Call.{Call}
use Rattle.rs_disk.specs.declared.call.State.{State}
use Rattle.rs_disk.specs.declared.call.Act.TheVariants as acts
use Rattle.rs_disk.specs.Disk.{applied, changed, content, in_range, state_of}
use Rattle.rs_disk.specs.Images.{IsInRange}
use Rattle.rs_disk.proofs.Crashes.{applied_last, one_more}
use Rattle.rs_disk.proofs.Kept.{pushed, change_done}
use Rattle.rs_disk.proofs.mem_disk.MemDisk.change.Goals as goal

pub invariant_of-self-2 : goal.invariant_of-self-2
invariant_of-self-2 c =
    let was = c.self.inside.acts in
    let call = c.args.call in
    let s = c.self.inside.state in
    let next = pushed was c.push-2.new.self (acts.Done call) c.in_default.ensures.ok in
    let changes = c.in_ok-push.ensures.ok ∙ ap (λ (kept : Call). s.changes ++ kept ∷ []) c.in_ok-kept.ensures in
    let now : record { base = s.base; changes = c.push.new.self } ≡ changed call s = ap (λ (cs : List Call). record { base = s.base; changes = cs }) changes in
    let copied = c.in_ok-content.ensures.items ∙ c.deref.ensures.value ∙ c.self.invariant.content in
    let within : IsTrue (in_range call (content (state_of was))) = subst (λ d. IsTrue (in_range call (content (state_of d.acts)))) (sym c.self.view_is) c.requires.within in
    record {
      state = now ∙ ap (changed call) c.self.invariant.state ∙ sym (change_done call (state_of was) c.requires.change) ∙ sym next;
      content = c.in_ok-apply.ensures.ok ∙ ap (λ bytes. applied call bytes) copied ∙ sym (applied_last s.changes call s.base) ∙ sym (ap content now);
      in_range = subst IsInRange (sym now) (one_more s.changes call s.base c.self.invariant.in_range (subst (λ (t : State). IsTrue (in_range call (content t))) (sym c.self.invariant.state) within));
    }
