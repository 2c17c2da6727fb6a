use Rattle.std.proofs.Common.{sym}
use Rattle.rs_lock.specs.Parts.{asked, idle}
use Rattle.rs_lock.proofs.Maps.{changed_on_ok}
use Rattle.rs_lock.proofs.Orders.{enlist_total}
use Rattle.rs_lock.proofs.part.note_ask.Goals as goal

pub returns-in-Some : goal.returns-in-Some
returns-in-Some c =
    changed_on_ok enlist_total c.args.who.now c.args.parts.now.entries idle (asked c.args.what.now) c.ask.result c.in-Some.part.now c.ask.new.self _ c.get_mut.ensures.ordered (sym c.in-Some.ensures.value)
    (c.get_mut.follows.holds c.ask.new.self).0 c.ask.ensures
