use Rattle.std.proofs.Common.{◌≡◌, ◌-◌}
use Rattle.rs_parse.specs.Read.{series_at, more_at}
use Rattle.rs_parse.specs.Reader.{begins_dml, dml_ended_at}
use Rattle.rs_parse.proofs.Loops.{with_prefix}
use Rattle.rs_parse.proofs.programs.body.Given as goal

abbrev pub invariant-loop : goal.invariant-loop
invariant-loop l = with_prefix l.body (series_at begins_dml dml_ended_at (7 - l.counter) l.tokens) ≡ more_at begins_dml dml_ended_at dml_ended_at 7 l.fn.tokens
