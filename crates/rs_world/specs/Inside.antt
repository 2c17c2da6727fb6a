-- The fields of a world.
use Rattle.std.specs.List.{range_with_len}
use Rattle.rs_site.specs.World.{World}
use Rattle.rs_world.specs.Sites.{places_of}
use Rattle.rs_world.specs.declared.world.World.TheInside.{Inside}

-- all sites are up, and the datagrams up to a number are gone
abbrev pub world_of : Inside → World
world_of a = record { sites = places_of a.sites; sent = a.sent; gone = range_with_len 1 a.delivered; replies = a.replies; history = a.history; runs = a.runs }
