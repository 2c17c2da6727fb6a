-- The sites of a world as places.
use Rattle.std.proofs.Common.{◌≡◌, ℕ, zero, suc, ◌-◌, List, [], ◌∷◌, map, Option, Some, None, refl, sym, ap, ◌∙◌}
use Rattle.std.specs.List.{slice_get, slice_set}
use Rattle.rs_base.specs.Reading.{◌>>=◌}
use Rattle.rs_course.specs.declared.input.Input.{Input}
use Rattle.rs_course.specs.declared.outs.Outs.{Outs}
use Rattle.rs_site.specs.State.{SiteState}
use Rattle.rs_site.specs.Step.{site_step}
use Rattle.rs_course.specs.Course.{after_outs}
use Rattle.rs_site.specs.Course.{stepped}
use Rattle.rs_course.specs.World.{site_at}
use Rattle.rs_site.specs.World.{Place}
use Rattle.rs_world.specs.Inside.{world_of}
use Rattle.rs_world.specs.Sites.{place_of, places_of, sites_after, outs_of}
use Rattle.rs_world.specs.declared.world.World.TheInside.{Inside}

get_place : (sites : List SiteState) (i : ℕ) → (slice_get (places_of sites) i >>= λ place. place.up) ≡ slice_get sites i
get_place [] i = refl
get_place (site ∷ sites) zero = refl
get_place (site ∷ sites) (suc i) = get_place sites i

set_place : (sites : List SiteState) (i : ℕ) (site : SiteState) → slice_set (places_of sites) i (place_of site) ≡ places_of (slice_set sites i site)
set_place [] i site = refl
set_place (other ∷ sites) zero site = refl
set_place (other ∷ sites) (suc i) site = ap (λ (places : List Place). place_of other ∷ places) (set_place sites i site)

-- the places of sites as they are opened
pub opened_places : (f : ℕ → SiteState) (numbers : List ℕ) → places_of (map f numbers) ≡ map (λ me. place_of (f me)) numbers
opened_places f [] = refl
opened_places f (n ∷ ns) = ap (λ (places : List Place). place_of (f n) ∷ places) (opened_places f ns)

-- the site of this number takes an input, and its output goes into the world
pub step_taken : (a : Inside) (number : ℕ) (input : Input) (found : Option SiteState) → slice_get a.sites (number - 1) ≡ found → (outs : Outs) → outs_of input found ≡ Some outs
    → after_outs (world_of (record a { sites = sites_after a.sites (number - 1) input found })) number outs ≡ stepped (world_of a) number input (site_at (world_of a) number)
step_taken a number input None at outs is = absurd cc
step_taken a number input (Some site) at outs is =
    let same : (site_step site input).1 ≡ outs = cc in
    ap (λ (out : Outs). after_outs (world_of (record a { sites = slice_set a.sites (number - 1) (site_step site input).0 })) number out) (sym same)
    ∙ ap (λ (places : List Place). after_outs (record (world_of a) { sites = places }) number (site_step site input).1) (sym (set_place a.sites (number - 1) (site_step site input).0))
    ∙ ap (λ (state : Option SiteState). stepped (world_of a) number input state) (sym (get_place a.sites (number - 1) ∙ at))

-- there is no such site
pub no_step : (a : Inside) (number : ℕ) (input : Input) (found : Option SiteState) → slice_get a.sites (number - 1) ≡ found → outs_of input found ≡ None
    → world_of (record a { sites = sites_after a.sites (number - 1) input found }) ≡ stepped (world_of a) number input (site_at (world_of a) number)
no_step a number input (Some site) at none = absurd cc
no_step a number input None at none = ap (λ (state : Option SiteState). stepped (world_of a) number input state) (sym (get_place a.sites (number - 1) ∙ at))
