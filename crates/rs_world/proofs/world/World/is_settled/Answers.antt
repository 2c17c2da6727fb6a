use Rattle.std.proofs.Common.{◌≡◌, None, IsTrue, subst}
use Rattle.std.specs.Prelude.{nat_le}
use Rattle.rs_course.specs.Course.{lowest_pending}
use Rattle.rs_site.specs.World.{World}
use Rattle.rs_world.proofs.Deliveries.{settled_if}
use Rattle.rs_world.proofs.world.World.is_settled.Goals as goal

pub returns : goal.returns
returns c =
    subst (λ (w : World). (IsTrue (nat_le c.len.result c.self.inside.delivered) → lowest_pending w ≡ None) × (lowest_pending w ≡ None → IsTrue (nat_le c.len.result c.self.inside.delivered)))
    c.self.view_is (settled_if c.self.inside c.len.result c.len.ensures)
