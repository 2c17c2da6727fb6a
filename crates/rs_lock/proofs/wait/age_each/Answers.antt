use Rattle.std.proofs.Common.{List, sym, ap, ◌∙◌, set}
use Rattle.std.proofs.lemmas.List.Edits.{map_over_more}
use Rattle.rs_lock.specs.declared.wait.Wait.{Wait}
use Rattle.rs_lock.specs.Waits.{aged}
use Rattle.rs_lock.proofs.wait.age_each.Goals as goal

pub loop-wait-preserved : goal.loop-wait-preserved
loop-wait-preserved c =
    let waits : List Wait = c.loop-wait.waits in
    let wait : Wait = c.wait-item.result in
    ap (λ (w : Wait). set waits c.loop-wait.wait-index w) (c.grow_older.ensures ∙ ap aged (sym c.wait-item.is))
    ∙ map_over_more aged c.args.waits.now waits c.loop-wait.wait-index wait c.loop-wait-test.true c.loop-wait.invariant c.wait-item.is
