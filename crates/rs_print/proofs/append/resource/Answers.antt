use Rattle.std.proofs.lemmas.Result.{on_err_weaker}
use Rattle.rs_base.proofs.Keeping.{keeps_more}
use Rattle.rs_print.proofs.append.resource.Goals as goal

pub returns-in_ok-extend-in-Table-clause-err : goal.returns-in_ok-extend-in-Table-clause-err
returns-in_ok-extend-in-Table-clause-err c =
    on_err_weaker c.swn.result (λ keeps. keeps_more _ _ _ _ c.in_ok-extend-in-Table.ensures.ok keeps) c.swn.ensures.err

pub returns-in_ok-extend-in-Birth-clause-err : goal.returns-in_ok-extend-in-Birth-clause-err
returns-in_ok-extend-in-Birth-clause-err c =
    on_err_weaker c.swn-in-Birth.result (λ keeps. keeps_more _ _ _ _ c.in_ok-extend-in-Birth.ensures.ok keeps) c.swn-in-Birth.ensures.err
