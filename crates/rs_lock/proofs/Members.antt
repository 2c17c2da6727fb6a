-- A resource added to an order.
use Rattle.std.proofs.Common.{◌≡◌, Bool, true, false, ◌||◌, cond, List, [], ◌∷◌, ◌++◌, Ordering, refl, sym, ap, ◌∙◌, subst}
use Rattle.std.specs.BTreeSet.{BTreeSet, contains, contains_by, Updates}
use Rattle.std.specs.BTreeMap.{is_at}
use Rattle.std.specs.Ordering.{is_eq}
use Rattle.std.proofs.lemmas.List.Folds.{list_any-append}
use Rattle.rs_base.specs.declared.lock.Resource.{Resource}
use Rattle.rs_base.specs.Orders.{resource_cmp}
use Rattle.rs_lock.specs.Resources.{has, noted}
use Rattle.rs_lock.proofs.Orders.{derived_cmp, derived_is}

either : (here before : Bool) → cond here true before ≡ (before || (here || false))
either true true = refl
either true false = refl
either false true = refl
either false false = refl

module _ (old new : BTreeSet Resource) (resources more : List Resource) (what : Resource) (knows : (q : Resource) → contains resource_cmp old q ≡ has q resources) where
  pub added_members : Updates derived_cmp old new what true → more ≡ resources ++ what ∷ [] → (q : Resource) → contains resource_cmp new q ≡ has q more
  added_members updates is q =
      let Claim : (Resource → Resource → Ordering) → Type 0 = λ cmp. Updates cmp old new what true in
      let says : Updates resource_cmp old new what true = subst Claim derived_is updates in
      says.0 q
      ∙ ap (λ before. cond (is_at (resource_cmp what) q) true before) (knows q)
      ∙ either (is_eq (resource_cmp what q)) (has q resources)
      ∙ sym (list_any-append (λ other. is_eq (resource_cmp other q)) resources (what ∷ []))
      ∙ ap (has q) (sym is)

  pub added_noted : contains_by (derived_cmp what) old ≡ false → more ≡ resources ++ what ∷ [] → more ≡ noted what resources
  added_noted absent is =
      let Claim : (Resource → Resource → Ordering) → Type 0 = λ cmp. contains_by (cmp what) old ≡ false in
      let none : has what resources ≡ false = sym (knows what) ∙ subst Claim derived_is absent in
      is ∙ sym (ap (λ b. cond b resources (resources ++ what ∷ [])) none)
