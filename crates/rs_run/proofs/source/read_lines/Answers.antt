use Rattle.std.proofs.Common.{ℕ, subst, rules, arith}
use Rattle.std.proofs.lemmas.Result.{err_from_is_err_and}
use Rattle.rs_run.specs.SourceReader.{GivesSource, with_events, ended}
use Rattle.rs_run.proofs.ReadSource.{read_bad, ends, comes_later, goes_on, fewer_left}
use Rattle.rs_run.proofs.source.read_lines.Goals as goal

pub returns-in_err-event : goal.returns-in_err-event
returns-in_err-event c =
    let p = err_from_is_err_and c.from_residual.result c.from_residual.ensures.1 in
    rw (p.1, p.2) (read_bad _ _ c.loop-events.lines c.in_err-event.field-0.0 _ c.in_err-event.ensures.event c.loop-events.invariant)

pub returns-in_default : goal.returns-in_default
returns-in_default c =
    let gives = subst (λ (n : ℕ). GivesSource c.ended.result (with_events c.loop-events.events (ended c.loop-events.unsettled n))) c.line.ensures.value c.ended.ensures in
    ends _ _ c.loop-events.lines c.next.new.self c.in_ok-event.field-0 _ c.ended.result c.in_ok-event.ensures.event c.in_default.not-Some c.loop-events.invariant gives

pub returns-then-not-may_come : goal.returns-then-not-may_come
returns-then-not-may_come c =
    rw (c.later.ensures, c.line-then-not-may_come.ensures.value)
    (comes_later _ _ c.loop-events.lines c.next.new.self c.in_ok-event.field-0 c.in-Some.event _ c.in_ok-event.ensures.event c.in-Some.is (search rules) c.loop-events.invariant)

pub loop-events-smaller : goal.loop-events-smaller
loop-events-smaller c = omega (arith, fewer_left c.loop-events.lines c.next.new.self c.in_ok-event.field-0 c.in-Some.event c.in_ok-event.ensures.event c.in-Some.is)

pub loop-events-preserved : goal.loop-events-preserved
loop-events-preserved c =
    rw (c.in_ok-push.ensures.ok, c.is_open_after-unsettled.ensures)
    (goes_on _ _ c.loop-events.lines c.next.new.self c.in_ok-event.field-0 c.in-Some.event _ c.in_ok-event.ensures.event c.in-Some.is (search rules) c.loop-events.invariant)
