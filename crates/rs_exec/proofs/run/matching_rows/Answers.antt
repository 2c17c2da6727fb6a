use Rattle.std.proofs.Common.{◌∙◌}
use Rattle.std.proofs.lemmas.Result.{IfOk-weaker}
use Rattle.rs_exec.proofs.PathLaws.{matching_read}
use Rattle.rs_exec.proofs.run.matching_rows.Goals as goal

pub returns-clause-found : goal.returns-clause-found
returns-clause-found g c =
    IfOk-weaker c.read_matching.result _ _
    (λ found is. is ∙ matching_read c.args.path c.args.clauses.now (g.R.ReadRows.rows c.args.rows.now) c.as_slice.result.now c.requires.rising (c.as_slice.ensures ∙ c.in_ok-numbers.ensures))
    c.read_matching.ensures.found
