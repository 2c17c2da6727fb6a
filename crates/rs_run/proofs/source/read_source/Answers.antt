use Rattle.std.proofs.Common.{List, false, IsTrue, subst}
use Rattle.std.proofs.lemmas.Result.{err_from_is_err_and}
use Rattle.rs_sched.specs.declared.event.Event.{Event}
use Rattle.rs_course.specs.Played.{are_accepted}
use Rattle.rs_run.proofs.ReadingOf.{bad_reading, played_reading, lines_reading}
use Rattle.rs_run.proofs.source.read_source.Goals as goal

pub returns-in_err-events : goal.returns-in_err-events
returns-in_err-events c =
    let p = err_from_is_err_and c.from_residual.result c.from_residual.ensures.1 in
    rw (p.1, p.2) (bad_reading c.args.bytes.now c.in_err-events.field-0.0 c.in_err-events.ensures.exact)

pub returns-then-are_accepted : goal.returns-then-are_accepted
returns-then-are_accepted c =
    let accepted = subst IsTrue c.are_accepted.ensures c.if-are_accepted.true in
    let all = subst (λ (events : List Event). IsTrue (are_accepted false events)) c.as_slice.ensures accepted in
    played_reading c.args.bytes.now c.in_ok-events.events c.in_ok-events.ensures.exact all

pub returns : goal.returns
returns c = lines_reading c.args.bytes.now c.in_ok-events.events c.read.result c.in_ok-events.ensures.exact c.read.ensures.exact
