use Rattle.std.proofs.Common.{◌∙◌, sym, ap}
use Rattle.std.specs.List.{dedup}
use Rattle.std.proofs.lemmas.Bool.{cond-true, cond-false}
use Rattle.rs_answer.specs.Answer.{same_row}
use Rattle.rs_answer.specs.Sorting.{sorted_by, answer_cmp}
use Rattle.rs_answer.proofs.Orders.{row_total, row_exact, answer_total, answer_exact}
use Rattle.rs_answer.proofs.Counted.{ties_decide, dedup_sorted}
use Rattle.rs_answer.proofs.sorting.rows_in_order.Goals as goal
use Rattle.rs_answer.proofs.sorting.rows_in_order.Goals.{then-distinct, else-distinct}

pub returns : goal.returns
returns c =
    let keys = c.args.keys.now in
    let once = dedup_sorted (answer_total keys) (answer_exact keys) same_row (ties_decide row_total row_exact) c.args.rows.items in
    elim c.if-distinct.branch [
      | then-distinct w ↦
          (simp w.from_vec-is at c.from_vec.ensures) ∙ w.without_repeats.ensures ∙ ap (dedup same_row) c.in_ok-rows.ensures ∙ once
          ∙ ap (sorted_by (answer_cmp keys)) (sym (cond-true _ _ _ w.if-distinct.true))
      | else-distinct w ↦
          (simp w.from_vec-is at c.from_vec.ensures) ∙ c.in_ok-rows.ensures ∙ ap (sorted_by (answer_cmp keys)) (sym (cond-false _ _ _ w.if-distinct.false))
    ]
