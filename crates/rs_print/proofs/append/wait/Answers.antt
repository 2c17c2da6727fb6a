use Rattle.std.proofs.lemmas.Result.{on_err_weaker}
use Rattle.rs_base.proofs.Keeping.{keeps_more, held_on_err}
use Rattle.rs_print.proofs.append.wait.Goals as goal

pub returns-in_err-resource-clause-err : goal.returns-in_err-resource-clause-err
returns-in_err-resource-clause-err c =
    held_on_err c.from_residual-in_err-resource.result
    (keeps_more _ _ _ _ c.in_ok-extend.ensures.ok (keeps_more _ _ _ _ c.in_ok-site.ensures.ok (keeps_more _ _ _ _ c.in_ok-extend-2.ensures.ok c.in_err-resource.ensures.err)))

pub returns-clause-err : goal.returns-clause-err
returns-clause-err c =
    on_err_weaker c.holder.result
    (λ keeps. keeps_more _ _ _ _ c.in_ok-extend.ensures.ok (keeps_more _ _ _ _ c.in_ok-site.ensures.ok (keeps_more _ _ _ _ c.in_ok-extend-2.ensures.ok
    (keeps_more _ _ _ _ c.in_ok-resource.ensures.ok keeps))))
    c.holder.ensures.err
