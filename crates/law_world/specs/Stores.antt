-- What a site stores of a resource.
use Rattle.rs_base.specs.declared.lock.Resource.{Resource}
use Rattle.rs_mean.specs.Expected.{Content, expected}
use Rattle.rs_site.specs.State.{SiteState}

-- what the site stores of a resource
abbrev pub content_of : SiteState → Resource → Content
content_of site what = expected site.held.database site.who.me what

-- No decided change of this resource is still to be made at the site. Each is made in the step that decides it, so far.
abbrev pub IsApplied : SiteState → Resource → Type 0
IsApplied site what = Unit {0}
