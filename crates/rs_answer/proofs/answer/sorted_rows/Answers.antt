use Rattle.std.proofs.Common.{◌∙◌, List, ap}
use Rattle.std.specs.Prelude.{if◌then◌else◌}
use Rattle.rs_ast.specs.declared.shape.ShapeKey.{ShapeKey}
use Rattle.rs_answer.specs.Answer.{same_row}
use Rattle.rs_answer.specs.Groups.{once}
use Rattle.rs_answer.specs.Sorting.{answer_cmp, sorted_by}
use Rattle.rs_answer.proofs.Answered.{same_answer}
use Rattle.rs_answer.proofs.answer.sorted_rows.Goals as goal

pub returns : goal.returns
returns c =
    let shape = c.args.shape.now in
    let rows = c.in_ok-rows.rows.items in (
      c.in_ok-rows.ensures.0,
      c.in_ok-rows_in_order.ensures
          ∙ ap (λ (keys : List ShapeKey). sorted_by (answer_cmp keys) (if shape.distinct then once same_row rows else rows)) c.as_slice.ensures
          ∙ same_answer shape c.args.joined rows c.in_ok-rows.ensures.1,
    )
