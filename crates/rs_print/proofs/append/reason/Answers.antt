use Rattle.std.proofs.Common.{◌≡◌, ◌++◌, codes, ap}
use Rattle.std.proofs.lemmas.Result.{on_ok_weaker}
use Rattle.rs_print.specs.Replies.{printed_reason, printed_wait}
use Rattle.rs_print.proofs.Joined.{put_both}
use Rattle.rs_print.proofs.append.reason.Goals as goal

pub returns-in_ok-extend-in-LockBudget-clause-ok : goal.returns-in_ok-extend-in-LockBudget-clause-ok
returns-in_ok-extend-in-LockBudget-clause-ok c =
    let parts : printed_reason c.args.reason.now ≡ codes "1 LockBudget " ++ printed_wait c.in-LockBudget.at c.in-LockBudget.what c.in-LockBudget.holder = ap printed_reason c.in-LockBudget.is in
    on_ok_weaker c.wait.result (λ e. put_both _ _ _ _ _ _ parts c.in_ok-extend-in-LockBudget.ensures.ok e) c.wait.ensures.ok
