-- The sites of a world: their states, and the output when the one of a number handles an input.
use Rattle.std.specs.Prelude.{ℕ, List, map, slice_set, Option, Some, None}
use Rattle.rs_course.specs.declared.input.Input.{Input}
use Rattle.rs_course.specs.declared.outs.Outs.{Outs}
use Rattle.rs_site.specs.State.{SiteState}
use Rattle.rs_site.specs.Step.{site_step}
use Rattle.rs_site.specs.World.{Place}

-- each of these sites is up
abbrev pub place_of : SiteState → Place
place_of site = record { up = Some site }

abbrev pub places_of : List SiteState → List Place
places_of sites = map place_of sites

abbrev pub sites_after : List SiteState → ℕ → Input → Option SiteState → List SiteState
sites_after sites position input None = sites
sites_after sites position input (Some site) = slice_set sites position (site_step site input).0

abbrev pub outs_of : Input → Option SiteState → Option Outs
outs_of input None = None
outs_of input (Some site) = Some (site_step site input).1
