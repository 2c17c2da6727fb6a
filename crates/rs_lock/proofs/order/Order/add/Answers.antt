use Rattle.std.proofs.Common.{◌≡◌, List, ◌∷◌, [], ◌++◌, sym, ap, ◌∙◌}
use Rattle.rs_base.specs.declared.lock.Resource.{Resource}
use Rattle.rs_lock.specs.Resources.{noted}
use Rattle.rs_lock.proofs.Members.{added_members, added_noted}
use Rattle.rs_lock.proofs.order.Order.add.Goals as goal

pub invariant_of-self-2 : goal.invariant_of-self-2
invariant_of-self-2 c =
    let before : List Resource = c.self.inside.resources.items in
    let is : c.push_reserved.new.self.items ≡ before ++ c.args.what.now ∷ [] = c.push_reserved.ensures.items ∙ ap (λ (xs : List Resource). xs ++ c.args.what.now ∷ []) c.reserve.ensures.items in
    added_members c.self.inside.members c.insert.new.self before c.push_reserved.new.self.items c.args.what.now c.self.invariant c.in_ok-insert.ensures.updates is

pub returns-clause-ok : goal.returns-clause-ok
returns-clause-ok c =
    let before : List Resource = c.self.inside.resources.items in
    let is : c.push_reserved.new.self.items ≡ before ++ c.args.what.now ∷ [] = c.push_reserved.ensures.items ∙ ap (λ (xs : List Resource). xs ++ c.args.what.now ∷ []) c.reserve.ensures.items in
    added_noted c.self.inside.members c.insert.new.self before c.push_reserved.new.self.items c.args.what.now c.self.invariant (sym c.contains.ensures ∙ c.if-contains.false) is
    ∙ ap (noted c.args.what.now) c.self.view_is
