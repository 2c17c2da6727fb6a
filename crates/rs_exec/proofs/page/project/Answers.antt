use Rattle.std.proofs.Common.{List, [], ◌∷◌, ◌++◌, get_or, sym, ap, ◌∙◌}
use Rattle.rs_base.specs.declared.value.Value.{Value}
use Rattle.rs_exec.specs.Running.{projected}
use Rattle.rs_exec.proofs.PageLaws.{projected_more}
use Rattle.rs_exec.proofs.page.project.Goals as goal

pub loop-column-preserved : goal.loop-column-preserved
loop-column-preserved c =
    c.in_ok-push_value.ensures
    ∙ ap (λ (values : List Value). values ++ projected (get_or c.args.columns.now c.loop-column.column-index 0 ∷ []) c.args.row.now) c.loop-column.invariant
    ∙ sym (projected_more c.args.columns.now c.args.row.now c.loop-column.column-index c.loop-column-test.true)
