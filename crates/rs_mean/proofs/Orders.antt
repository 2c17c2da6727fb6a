-- The orders of names and of synonyms are total, and only equal ones tie.
use Rattle.std.proofs.Common.{◌≡◌, Ordering, Less, Equal, Greater, refl, nat_cmp}
use Rattle.std.specs.Cmp.{IsTotalOrder}
use Rattle.std.specs.Cmp.Lexicographic.{slice_cmp}
use Rattle.std.specs.Ordering.{ordering_then}
use Rattle.std.proofs.lemmas.Cmp.{nat_list_cmp_total, nat_cmp_total, on_total, then_total}
use Rattle.std.proofs.lemmas.Map.Lookups.{CmpEqualImpliesEq, exact_bytes, exact_unsigned}
use Rattle.rs_base.specs.declared.name.Swn.{Swn}
use Rattle.rs_base.specs.Name.{name_cmp}
use Rattle.rs_mean.specs.declared.synonym.Synonym.{Synonym}
use Rattle.rs_mean.specs.Database.{synonym_cmp}

-- a chain of two answers is a tie exactly if both are
both_tie : (o p : Ordering) → ordering_then o p ≡ Equal → (o ≡ Equal) × (p ≡ Equal)
both_tie Less p h = cc
both_tie Equal p h = (refl, h)
both_tie Greater p h = cc

pub name_total : IsTotalOrder name_cmp
name_total =
    then_total (on_total (λ (n : Swn). n.creator) nat_list_cmp_total)
    (then_total (on_total (λ (n : Swn). n.creator_site) nat_cmp_total)
    (then_total (on_total (λ (n : Swn). n.object) nat_list_cmp_total) (on_total (λ (n : Swn). n.birth) nat_cmp_total)))

pub name_exact : CmpEqualImpliesEq name_cmp
name_exact a b e =
    let first = both_tie (slice_cmp nat_cmp a.creator b.creator) _ e in
    let second = both_tie (nat_cmp a.creator_site b.creator_site) _ first.1 in
    let third = both_tie (slice_cmp nat_cmp a.object b.object) _ second.1 in
    let creator : a.creator ≡ b.creator = exact_bytes a.creator b.creator first.0 in
    let creator_site : a.creator_site ≡ b.creator_site = exact_unsigned a.creator_site b.creator_site second.0 in
    let object : a.object ≡ b.object = exact_bytes a.object b.object third.0 in
    let birth : a.birth ≡ b.birth = exact_unsigned a.birth b.birth third.1 in
    λ i. record { creator = creator i; creator_site = creator_site i; object = object i; birth = birth i }

pub synonym_total : IsTotalOrder synonym_cmp
synonym_total =
    then_total (on_total (λ (s : Synonym). s.site) nat_cmp_total)
    (then_total (on_total (λ (s : Synonym). s.user) nat_list_cmp_total) (on_total (λ (s : Synonym). s.name) nat_list_cmp_total))

pub synonym_exact : CmpEqualImpliesEq synonym_cmp
synonym_exact a b e =
    let first = both_tie (nat_cmp a.site b.site) _ e in
    let second = both_tie (slice_cmp nat_cmp a.user b.user) _ first.1 in
    let site : a.site ≡ b.site = exact_unsigned a.site b.site first.0 in
    let user : a.user ≡ b.user = exact_bytes a.user b.user second.0 in
    let name : a.name ≡ b.name = exact_bytes a.name b.name second.1 in
    λ i. record { site = site i; user = user i; name = name i }
