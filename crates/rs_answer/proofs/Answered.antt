-- Rows in another order have the same answer.
use Rattle.std.proofs.Common.{◌≡◌, List, Bool, true, false, Ok, Err, sym, ap, ◌∙◌}
use Rattle.std.specs.List.Sorted.{IsPermutation}
use Rattle.std.specs.Prelude.{if◌then◌else◌}
use Rattle.std.proofs.lemmas.Bool.{cond-true, cond-false}
use Rattle.rs_base.specs.declared.reply.Denial.TheVariants as denials
use Rattle.rs_base.specs.declared.value.Value.{Value}
use Rattle.rs_ast.specs.declared.shape.Shape.{Shape}
use Rattle.rs_ast.specs.declared.shape.ShapeKey.{ShapeKey}
use Rattle.rs_answer.specs.Answer.{same_row, shown, query_rows, overflows, answer_of}
use Rattle.rs_answer.specs.Groups.{once}
use Rattle.rs_answer.specs.Sorting.{answer_cmp, sorted_by}
use Rattle.rs_answer.proofs.Counted.{times_permuted, sorted_by_same, once_permutes}
use Rattle.rs_answer.proofs.Orders.{answer_total, answer_exact}
use Rattle.rs_answer.proofs.Regrouped.{row_decides}

module _ (keys : List ShapeKey) where
  permuted : (rows others : List (List Value)) → IsPermutation rows others → sorted_by (answer_cmp keys) others ≡ sorted_by (answer_cmp keys) rows
  permuted rows others same =
      sorted_by_same (answer_total keys) (answer_exact keys) same_row row_decides others rows (λ z. times_permuted same_row z rows others same)

  chosen_rows : (distinct : Bool) (rows others : List (List Value)) → IsPermutation rows others
      → sorted_by (answer_cmp keys) (if distinct then once same_row others else others) ≡ sorted_by (answer_cmp keys) (if distinct then once same_row rows else rows)
  chosen_rows true rows others same = permuted (once same_row rows) (once same_row others) (once_permutes (answer_total keys) (answer_exact keys) same_row row_decides rows others same)
  chosen_rows false rows others same = permuted rows others same

pub same_answer : (shape : Shape) (joined rows : List (List Value)) → IsPermutation (shown shape joined) rows
    → sorted_by (answer_cmp shape.keys) (if shape.distinct then once same_row rows else rows) ≡ sorted_by (answer_cmp shape.keys) (query_rows shape joined)
same_answer shape joined rows same = chosen_rows shape.keys shape.distinct (shown shape joined) rows same

pub answer_given : (shape : Shape) (joined rows : List (List Value)) → overflows shape joined ≡ false → rows ≡ sorted_by (answer_cmp shape.keys) (query_rows shape joined) → Ok rows ≡ answer_of shape joined
unfolding answer_of
answer_given shape joined rows fits is = ap Ok is ∙ sym (cond-false (overflows shape joined) (Err denials.Overflow) (Ok (sorted_by (answer_cmp shape.keys) (query_rows shape joined))) fits)

pub answer_denied : (shape : Shape) (joined : List (List Value)) → overflows shape joined ≡ true → Err denials.Overflow ≡ answer_of shape joined
unfolding answer_of
answer_denied shape joined over = sym (cond-true (overflows shape joined) (Err denials.Overflow) (Ok (sorted_by (answer_cmp shape.keys) (query_rows shape joined))) over)
