use Rattle.std.proofs.Common.{List, ap, ◌∙◌}
use Rattle.std.specs.List.{range_with_len}
use Rattle.rs_site.specs.State.{SiteState, opened}
use Rattle.rs_course.specs.Course.{Open}
use Rattle.rs_site.specs.Course.{act}
use Rattle.rs_site.specs.World.{World, Place}
use Rattle.rs_world.specs.Sites.{places_of}
use Rattle.rs_world.proofs.SitePlaces.{opened_places}
use Rattle.rs_world.proofs.world.World.open_sites.Goals as goal

pub returns : goal.returns
returns c =
    let w = c.self.view_is in
    ap (λ (sites : List SiteState). record (Rattle.rs_world.specs.Inside.world_of c.self.inside) { sites = places_of sites }) c.in_ok-self-inside.ensures
    ∙ ap (λ (places : List Place). record (Rattle.rs_world.specs.Inside.world_of c.self.inside) { sites = places }) (opened_places (λ me. opened me c.args.last) (range_with_len 1 c.args.last))
    ∙ ap (λ (world : World). act world (Open c.args.last)) w
