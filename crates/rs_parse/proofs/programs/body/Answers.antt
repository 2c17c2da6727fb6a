use Rattle.std.proofs.Common.{◌≤◌, arith}
use Rattle.rs_parse.specs.Reader.{begins_dml, dml_ended_at, body_at}
use Rattle.rs_parse.proofs.Loops.{series_more, series_ends, series_full}
use Rattle.rs_parse.proofs.programs.body.Goals as goal

pub returns-then-not-begins_with_dml : goal.returns-then-not-begins_with_dml
unfolding body_at
returns-then-not-begins_with_dml c = series_ends begins_dml dml_ended_at _ _ _ _ _ c.begins_with_dml.ensures c.if-not-begins_with_dml.true c.loop.invariant

pub returns : goal.returns
unfolding body_at
returns c =
    let past : 7 ≤ c.loop.counter = omega (arith, c.loop-test.false) in
    series_full begins_dml dml_ended_at _ 7 c.loop.counter _ _ past c.loop.invariant

pub loop-preserved : goal.loop-preserved
loop-preserved c =
    series_more begins_dml dml_ended_at _ _ 7 c.loop.counter _ _ _ _ _
    c.loop-test.true c.begins_with_dml.ensures c.if-not-begins_with_dml.false c.in_ok-dml_ended-2.ensures c.in_ok-push-2.ensures.ok c.loop.invariant
