use Rattle.std.proofs.Common.{◌≡◌, map, length}
use Rattle.std.specs.List.{enumerate_from}
use Rattle.rs_site.specs.Report.{view_of}
use Rattle.rs_world.specs.Sites.{places_of}
use Rattle.rs_world.proofs.sites.Sites.into_views.Given as goal

abbrev pub invariant-loop-site : goal.invariant-loop-site
invariant-loop-site l = (l.before ≡ length l.yielded) × (l.views ≡ map view_of (enumerate_from 1 (places_of l.yielded)))
