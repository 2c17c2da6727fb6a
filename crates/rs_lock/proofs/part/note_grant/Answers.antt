use Rattle.std.proofs.Common.{sym}
use Rattle.rs_lock.specs.Parts.{given, idle}
use Rattle.rs_lock.proofs.Maps.{changed_on_ok}
use Rattle.rs_lock.proofs.Orders.{enlist_total}
use Rattle.rs_lock.proofs.part.note_grant.Goals as goal

pub returns-in-Some : goal.returns-in-Some
returns-in-Some c =
    changed_on_ok enlist_total c.args.who.now c.args.parts.now.entries idle (given c.args.what.now) c.give.result c.in-Some.part.now c.give.new.self _ c.get_mut.ensures.ordered (sym c.in-Some.ensures.value)
    (c.get_mut.follows.holds c.give.new.self).0 c.give.ensures
