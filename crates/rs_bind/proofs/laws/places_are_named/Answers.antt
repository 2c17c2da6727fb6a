use Rattle.rs_bind.proofs.Places.{places_are_named}
use Rattle.rs_bind.proofs.laws.places_are_named.Goals as goal

pub returns : goal.returns
returns c = places_are_named
