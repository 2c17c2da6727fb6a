use Rattle.std.proofs.lemmas.Result.{on_err_weaker}
use Rattle.rs_base.proofs.Keeping.{keeps_more, keeps_same, held_on_err}
use Rattle.rs_print.proofs.append.reply.Goals as goal

pub returns-in_err-origin-clause-err : goal.returns-in_err-origin-clause-err
returns-in_err-origin-clause-err c =
    held_on_err c.from_residual-in_err-origin.result (keeps_more _ _ _ _ c.in_ok-extend.ensures.ok c.in_err-origin.ensures.err)

pub returns-in_err-extend-2-clause-err : goal.returns-in_err-extend-2-clause-err
returns-in_err-extend-2-clause-err c =
    held_on_err c.from_residual-in_err-extend-2.result
    (keeps_more _ _ _ _ c.in_ok-extend.ensures.ok (keeps_more _ _ _ _ c.in_ok-origin.ensures.ok (keeps_same _ _ c.in_err-extend-2.ensures.err)))

pub returns-clause-err : goal.returns-clause-err
returns-clause-err c =
    on_err_weaker c.class.result
    (λ keeps. keeps_more _ _ _ _ c.in_ok-extend.ensures.ok (keeps_more _ _ _ _ c.in_ok-origin.ensures.ok (keeps_more _ _ _ _ c.in_ok-extend-2.ensures.ok keeps)))
    c.class.ensures.err
