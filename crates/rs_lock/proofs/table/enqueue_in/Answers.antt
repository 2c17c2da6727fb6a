use Rattle.std.proofs.Common.{sym}
use Rattle.rs_lock.specs.Lock.{enqueued}
use Rattle.rs_lock.proofs.Maps.{unchanged_on_err}
use Rattle.rs_lock.proofs.Tables.{changed_lock}
use Rattle.rs_lock.proofs.table.enqueue_in.Goals as goal

pub returns-in-Some-clause-ok : goal.returns-in-Some-clause-ok
returns-in-Some-clause-ok c =
    changed_lock c.args.what.now c.args.table.now.entries (enqueued c.args.claim.now) c.enqueue.result c.in-Some.lock.now c.enqueue.new.self _ c.get_mut.ensures.ordered (sym c.in-Some.ensures.value)
    (c.get_mut.follows.holds c.enqueue.new.self).0 c.enqueue.ensures.ok

pub returns-in-Some-clause-err : goal.returns-in-Some-clause-err
returns-in-Some-clause-err c =
    unchanged_on_err _ c.args.table.now.entries c.enqueue.result c.in-Some.lock.now c.enqueue.new.self _ (sym c.in-Some.ensures.value) (c.get_mut.follows.holds c.enqueue.new.self).0 c.enqueue.ensures.err
