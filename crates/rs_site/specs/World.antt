-- A world of sites.
use Rattle.rs_course.specs.World as course
use Rattle.rs_site.specs.State.{SiteState}

abbrev pub Place : Type 0
Place = course.Place SiteState

abbrev pub World : Type 0
World = course.World SiteState
