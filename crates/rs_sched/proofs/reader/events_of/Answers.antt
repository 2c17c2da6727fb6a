use Rattle.std.proofs.lemmas.Result.{err_from_is_err_and}
use Rattle.rs_sched.proofs.ReadLoop.{event_smaller, event_found, all_found, next_fails}
use Rattle.rs_sched.proofs.reader.events_of.Goals as goal

pub returns-in_err-event : goal.returns-in_err-event
returns-in_err-event c =
    let p = err_from_is_err_and c.from_residual.result c.from_residual.ensures.1 in
    rw (p.1, p.2) (next_fails _ _ _ _ c.in_err-event.ensures.event c.loop-events.invariant)

pub loop-events-smaller : goal.loop-events-smaller
loop-events-smaller c = event_smaller _ _ c.in-Some.event (rw c.in-Some.is at c.in_ok-event.ensures.event)

pub loop-events-preserved : goal.loop-events-preserved
loop-events-preserved c = rw c.in_ok-push.ensures.ok (event_found _ _ _ c.in-Some.event _ (rw c.in-Some.is at c.in_ok-event.ensures.event) c.loop-events.invariant)

pub returns : goal.returns
returns c = all_found _ _ _ _ (rw c.in_default.is at c.in_ok-event.ensures.event) c.loop-events.invariant
