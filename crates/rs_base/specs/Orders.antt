-- The orders of resources, modes and peers: by their kinds as they are declared, and then by their fields in order.
use Rattle.std.specs.Ordering.{nat_cmp, ordering_then}
use Rattle.std.specs.Cmp.Lexicographic.{slice_cmp}
use Rattle.std.specs.declared.cmp.Ordering.{Ordering}
use Rattle.std.specs.declared.cmp.Ordering.TheVariants.{Less, Equal, Greater}
use Rattle.rs_base.specs.declared.lock.Mode.{Mode}
use Rattle.rs_base.specs.declared.lock.Mode.TheVariants as modes
use Rattle.rs_base.specs.declared.lock.Resource.{Resource}
use Rattle.rs_base.specs.declared.lock.Resource.TheVariants as resources
use Rattle.rs_base.specs.declared.peer.Peer.{Peer}
use Rattle.rs_base.specs.declared.peer.Peer.TheVariants as peers
use Rattle.rs_base.specs.Name.{name_cmp}

-- reading before writing
abbrev pub mode_cmp : Mode → Mode → Ordering
mode_cmp modes.Read modes.Read = Equal
mode_cmp modes.Read modes.Write = Less
mode_cmp modes.Write modes.Read = Greater
mode_cmp modes.Write modes.Write = Equal

-- tables, births, programs, synonyms
abbrev pub resource_cmp : Resource → Resource → Ordering
resource_cmp (resources.Table name) (resources.Table other) = name_cmp name other
resource_cmp (resources.Table name) (resources.Birth other) = Less
resource_cmp (resources.Table name) (resources.Program user program) = Less
resource_cmp (resources.Table name) (resources.Synonyms user) = Less
resource_cmp (resources.Birth name) (resources.Table other) = Greater
resource_cmp (resources.Birth name) (resources.Birth other) = name_cmp name other
resource_cmp (resources.Birth name) (resources.Program user program) = Less
resource_cmp (resources.Birth name) (resources.Synonyms user) = Less
resource_cmp (resources.Program user program) (resources.Table name) = Greater
resource_cmp (resources.Program user program) (resources.Birth name) = Greater
resource_cmp (resources.Program user program) (resources.Program other_user other) =
    ordering_then (slice_cmp nat_cmp user other_user) (slice_cmp nat_cmp program other)
resource_cmp (resources.Program user program) (resources.Synonyms other) = Less
resource_cmp (resources.Synonyms user) (resources.Table name) = Greater
resource_cmp (resources.Synonyms user) (resources.Birth name) = Greater
resource_cmp (resources.Synonyms user) (resources.Program other program) = Greater
resource_cmp (resources.Synonyms user) (resources.Synonyms other) = slice_cmp nat_cmp user other

-- sites before clients, each by its number
abbrev pub peer_cmp : Peer → Peer → Ordering
peer_cmp (peers.Site site) (peers.Site other) = nat_cmp site other
peer_cmp (peers.Site site) (peers.Client port) = Less
peer_cmp (peers.Client port) (peers.Site site) = Greater
peer_cmp (peers.Client port) (peers.Client other) = nat_cmp port other
