use Rattle.std.proofs.Common.{arith}
use Rattle.std.proofs.lemmas.Result.{on_ok_weaker}
use Rattle.rs_print.proofs.Joined.{join-read, put_both}
use Rattle.rs_print.proofs.append.values.Goals as goal

pub returns-clause-ok : goal.returns-clause-ok
returns-clause-ok c =
    let parts = join-read c.args.row.now c.first-item.result (omega arith) c.first-item.is in
    on_ok_weaker c.further_values.result (λ e. put_both _ _ _ _ _ _ parts c.in_ok-value.ensures.ok e) c.further_values.ensures.ok
