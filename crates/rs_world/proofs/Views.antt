-- The views of sites, one after the other.
use Rattle.std.proofs.Common.{◌≡◌, ℕ, ◌+◌, List, [], ◌∷◌, ◌++◌, map, length, Some, sym, ap, ◌∙◌, arith}
use Rattle.std.specs.List.{enumerate_from}
use Rattle.std.proofs.lemmas.List.{length-map, map-append}
use Rattle.rs_site.specs.State.{SiteState}
use Rattle.rs_course.specs.declared.report.SiteView.{SiteView}
use Rattle.rs_site.specs.Report.{view_of, view_when}
use Rattle.rs_site.specs.World.{Place}
use Rattle.rs_world.specs.Sites.{place_of, places_of}
use Rattle.rs_world.proofs.Places.{enumerate_from-push}

-- the view of the next site comes to the end
pub views_more : (sites : List SiteState) (site : SiteState) (number : ℕ) (views new : List SiteView) (view : SiteView) → views ≡ map view_of (enumerate_from 1 (places_of sites))
    → number ≡ length sites + 1 → view ≡ view_when number (Some site) → new ≡ views ++ view ∷ [] → new ≡ map view_of (enumerate_from 1 (places_of (sites ++ site ∷ [])))
views_more sites site number views new view so_far at is pushed =
    let position : number ≡ 1 + length (places_of sites) = omega (arith, at, length-map sites place_of) in
    let last : view ≡ view_of (1 + length (places_of sites), place_of site) = is ∙ ap (λ (n : ℕ). view_when n (Some site)) position in
    pushed
    ∙ ap (λ (vs : List SiteView). vs ++ view ∷ []) so_far
    ∙ ap (λ (v : SiteView). map view_of (enumerate_from 1 (places_of sites)) ++ v ∷ []) last
    ∙ sym (map-append view_of (enumerate_from 1 (places_of sites)) ((1 + length (places_of sites), place_of site) ∷ []))
    ∙ ap (map view_of) (sym (enumerate_from-push 1 (places_of sites) (place_of site)))
    ∙ ap (λ (places : List Place). map view_of (enumerate_from 1 places)) (sym (map-append place_of sites (site ∷ [])))
