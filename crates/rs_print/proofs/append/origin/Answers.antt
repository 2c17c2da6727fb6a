use Rattle.std.proofs.lemmas.Result.{on_err_weaker}
use Rattle.rs_base.proofs.Keeping.{keeps_more}
use Rattle.rs_print.proofs.append.origin.Goals as goal

pub returns-clause-err : goal.returns-clause-err
returns-clause-err c =
    on_err_weaker c.number-2.result
    (λ keeps. keeps_more _ _ _ _ c.in_ok-site.ensures.ok (keeps_more _ _ _ _ c.in_ok-extend.ensures.ok (keeps_more _ _ _ _ c.in_ok-extend-2.ensures.ok
    (keeps_more _ _ _ _ c.in_ok-extend-3.ensures.ok (keeps_more _ _ _ _ c.in_ok-number.ensures.ok (keeps_more _ _ _ _ c.in_ok-extend-4.ensures.ok keeps))))))
    c.number-2.ensures.err
