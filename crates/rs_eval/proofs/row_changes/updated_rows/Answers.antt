use Rattle.std.proofs.Common.{◌≡◌, List, Result, sym, ap, ◌∙◌, subst}
use Rattle.rs_base.specs.declared.reply.Denial.{Denial}
use Rattle.rs_base.specs.declared.value.Value.{Value}
use Rattle.rs_eval.specs.RowChanges.{and_others, updated_row, updated_rows}
use Rattle.rs_eval.specs.Updating.{Puts}
use Rattle.rs_eval.proofs.UpdatedRows.{suffix, put, answered}
use Rattle.rs_eval.proofs.row_changes.updated_rows.Goals as goal

pub returns-in-Err : goal.returns-in-Err
returns-in-Err c =
    let values = c.args.values.now in
    let sets = c.args.sets.now in
    let clauses = c.args.clauses.now in
    let others = updated_rows values sets clauses c.in-Some.others in
    let row = updated_row values sets clauses c.in-Some.row.now in
    let so_far : updated_rows values sets clauses c.args.rows.now ≡ suffix c.loop-row.new (and_others row others) = rw c.in-Some.ensures at c.loop-row.invariant in
    let puts = subst (λ done. Puts done c.loop-row.new c.push_updated.new.new row) c.in-Err.is c.in_ok-cause.ensures in
    sym (so_far ∙ ap (λ (one : Result (List Value) Denial). suffix c.loop-row.new (and_others one others)) (answered (Unit {0}) c.loop-row.new c.push_updated.new.new c.in-Err.cause row puts))

pub loop-row-preserved : goal.loop-row-preserved
loop-row-preserved c =
    let values = c.args.values.now in
    let sets = c.args.sets.now in
    let clauses = c.args.clauses.now in
    let others = updated_rows values sets clauses c.in-Some.others in
    let row = updated_row values sets clauses c.in-Some.row.now in
    let so_far : updated_rows values sets clauses c.args.rows.now ≡ suffix c.loop-row.new (and_others row others) = rw c.in-Some.ensures at c.loop-row.invariant in
    let puts = subst (λ done. Puts done c.loop-row.new c.push_updated.new.new row) c.in_default-2.is c.in_ok-cause.ensures in
    so_far ∙ put (Unit {0}) c.loop-row.new c.push_updated.new.new c.in_default-2.field-0 row others puts
