-- Texts of names: reading and printing are inverse, and two names have different texts.
use Rattle.std.proofs.Common.{◌≡◌, ℕ, List, [], ◌∷◌, ◌++◌, Option, Some, None, IfSome, IsTrue, true, decimal, refl, sym, ap, subst, ◌∙◌, append_assoc}
use Rattle.std.specs.List.{list_all}
use Rattle.std.proofs.lemmas.Option.{cond_some, same_Some}
use Rattle.rs_base.specs.Ident.{is_ident}
use Rattle.rs_base.specs.Printing.{printed_swn}
use Rattle.rs_base.specs.declared.name.Swn.{Swn}
use Rattle.rs_name.specs.SwnText.{IsSite, IsName, IsSwnText}
use Rattle.rs_name.specs.Reader.{site_of, is_before, separated, ident_of, ident_at_site, swn_of}
use Rattle.rs_name.proofs.Steps.{bind_some, bind_at}
use Rattle.rs_name.proofs.Sites.{site_is, site_again, site_free}
use Rattle.rs_name.proofs.Separating.{separated_again, separated_is, ident_free, both_free}

-- ---- an identifier and its site

abbrev at_site : List ℕ → ℕ → List ℕ
at_site ident site = ident ++ (64 ∷ decimal site)

pub record IsIdentAtSite (bytes : List ℕ) (x : List ℕ × ℕ) : Type 0 where
  pub ident : IsTrue (is_ident x.0)
  pub site : IsSite x.1
  pub parts : bytes ≡ at_site x.0 x.1

ident_at_site_is : (bytes : List ℕ) (x : List ℕ × ℕ) → ident_at_site bytes ≡ Some x → IsIdentAtSite bytes x
unfolding ident_at_site
ident_at_site_is bytes x e =
    let p = bind_some (separated 64 bytes) _ x e in
    let i = bind_some (ident_of p.0.0) _ x p.2 in
    let s = bind_some (site_of p.0.1) _ x i.2 in
    let ident = cond_some (is_ident p.0.0) p.0.0 i.0 i.1 in
    let site = site_is p.0.1 s.0 s.1 in
    subst (λ (y : List ℕ × ℕ). IsIdentAtSite bytes y) (same_Some (i.0, s.0) x s.2)
    (record {
      ident = subst (λ (name : List ℕ). IsTrue (is_ident name)) ident.1 ident.0;
      site = site.0;
      parts = separated_is 64 bytes p.0 p.1 ∙ ap (λ (name : List ℕ). name ++ (64 ∷ p.0.1)) ident.1 ∙ ap (λ (digits : List ℕ). i.0 ++ (64 ∷ digits)) site.1;
    })

ident_at_site_again : (ident : List ℕ) (site : ℕ) → IsTrue (is_ident ident) → IsSite site → ident_at_site (at_site ident site) ≡ Some (ident, site)
unfolding ident_at_site
ident_at_site_again ident site is within =
    bind_at (separated 64 (at_site ident site)) _ (ident, decimal site) (separated_again 64 ident (decimal site) (ident_free 64 refl ident is))
    ∙ bind_at (ident_of ident) _ ident (rw is refl)
    ∙ bind_at (site_of (decimal site)) _ site (site_again site within)

at_site_free : (ident : List ℕ) (site : ℕ) → IsTrue (is_ident ident) → IsSite site → list_all (is_before 46) (at_site ident site) ≡ true
at_site_free ident site is within = both_free 46 ident (64 ∷ decimal site) (ident_free 46 refl ident is) (both_free 46 (64 ∷ []) (decimal site) refl (site_free site within))

-- ---- names

-- the text in two parts at its `.`
halves : (name : Swn) → printed_swn name ≡ at_site name.creator name.creator_site ++ (46 ∷ at_site name.object name.birth)
halves name = simp append_assoc

pub printed_read : (name : Swn) → IsName name → swn_of (printed_swn name) ≡ Some name
unfolding swn_of
printed_read name is =
    let creator = at_site name.creator name.creator_site in
    let object = at_site name.object name.birth in
    ap swn_of (halves name)
    ∙ bind_at (separated 46 (creator ++ (46 ∷ object))) _ (creator, object) (separated_again 46 creator object (at_site_free name.creator name.creator_site is.creator is.creator_site))
    ∙ bind_at (ident_at_site creator) _ (name.creator, name.creator_site) (ident_at_site_again name.creator name.creator_site is.creator is.creator_site)
    ∙ bind_at (ident_at_site object) _ (name.object, name.birth) (ident_at_site_again name.object name.birth is.object is.birth)

pub forth : (bytes : List ℕ) (name : Swn) → IsSwnText bytes name → swn_of bytes ≡ Some name
forth bytes name is = ap swn_of is.printed ∙ printed_read name is.within

pub back : (bytes : List ℕ) (name : Swn) → swn_of bytes ≡ Some name → IsSwnText bytes name
unfolding swn_of
back bytes name e =
    let p = bind_some (separated 46 bytes) _ name e in
    let c = bind_some (ident_at_site p.0.0) _ name p.2 in
    let o = bind_some (ident_at_site p.0.1) _ name c.2 in
    let creator = ident_at_site_is p.0.0 c.0 c.1 in
    let object = ident_at_site_is p.0.1 o.0 o.1 in
    let found : Swn = record { creator = c.0.0; creator_site = c.0.1; object = o.0.0; birth = o.0.1 } in
    subst (λ (n : Swn). IsSwnText bytes n) (same_Some found name o.2)
    (record {
      within = record { creator = creator.ident; creator_site = creator.site; object = object.ident; birth = object.site };
      printed =
          separated_is 46 bytes p.0 p.1
          ∙ ap (λ (half : List ℕ). half ++ (46 ∷ p.0.1)) creator.parts
          ∙ ap (λ (half : List ℕ). at_site c.0.0 c.0.1 ++ (46 ∷ half)) object.parts
          ∙ sym (halves found);
    })

pub printed_is_read : (bytes : List ℕ) (name : Swn) → (IsSwnText bytes name → swn_of bytes ≡ Some name) × (swn_of bytes ≡ Some name → IsSwnText bytes name)
printed_is_read bytes name = (forth bytes name, back bytes name)

pub one_name : (bytes : List ℕ) (one other : Swn) → IsSwnText bytes one → IsSwnText bytes other → one ≡ other
one_name bytes one other p q = same_Some one other (sym (forth bytes one p) ∙ forth bytes other q)

-- ---- what code finds

pub found_is : (bytes : List ℕ) (found : Option Swn) → found ≡ swn_of bytes → IfSome found (λ name. IsSwnText bytes name)
found_is bytes (Some name) e = back bytes name (sym e)
found_is bytes None e = tt
