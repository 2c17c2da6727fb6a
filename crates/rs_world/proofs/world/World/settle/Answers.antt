use Rattle.std.proofs.Common.{OnOk, ◌≡◌, List, fold, sym, subst}
use Rattle.rs_course.specs.Course.{Action}
use Rattle.rs_site.specs.Course.{act}
use Rattle.rs_course.proofs.Settling.{deliveries_are}
use Rattle.rs_world.proofs.world.World.settle.Goals as goal

pub returns : goal.returns
returns c = subst (λ (all : List Action). OnOk c.deliver_most.result (c.deliver_most.new.self ≡ fold act c.args.self.now all)) (sym deliveries_are) c.deliver_most.ensures
