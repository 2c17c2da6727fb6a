use Rattle.std.proofs.Common.{sym, ap, ◌∙◌}
use Rattle.rs_lock.specs.Lock.{verdict}
use Rattle.rs_lock.proofs.Tables.{found_lock}
use Rattle.rs_lock.proofs.table.verdict_in.Goals as goal

pub returns-in-Some : goal.returns-in-Some
returns-in-Some c =
    c.verdict.ensures
    ∙ ap (verdict c.args.claim.now) (found_lock c.args.what.now c.args.table.now.entries c.in-Some.lock.now (sym c.in-Some.ensures.value))
