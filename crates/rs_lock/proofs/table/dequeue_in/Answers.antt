use Rattle.std.proofs.Common.{sym}
use Rattle.rs_lock.proofs.Tables.{dequeued_some}
use Rattle.rs_lock.proofs.table.dequeue_in.Goals as goal

pub returns : goal.returns
returns c =
    dequeued_some c.args.what.now c.args.table.now.entries c.args.who.now c.in-Some.lock.now c.dequeue.new.self _ c.get_mut.ensures.ordered (sym c.in-Some.ensures.value)
    (c.get_mut.follows.holds c.dequeue.new.self).0 c.dequeue.ensures
