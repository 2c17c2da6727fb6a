-- The rows that groups give, one group after another.
use Rattle.std.proofs.Common.{◌≡◌, List, [], ◌∷◌, ◌++◌, Bool, true, false, ◌||◌, Option, Some, None, refl, ap, ◌∙◌, append-nil, append_assoc}
use Rattle.std.specs.List.{cons_option}
use Rattle.std.specs.Option.{option_to_list}
use Rattle.rs_base.specs.declared.value.Value.{Value}
use Rattle.rs_ast.specs.declared.shape.ShapeItem.{ShapeItem}
use Rattle.rs_answer.specs.Given.{group_overflows, any_overflows, rows_of}
use Rattle.rs_answer.specs.Items.{row_of}

-- The rows given so far, and those of the groups that are left, are those of all groups; of the groups before those left no sum overflows.
pub record Progress (items : List ShapeItem) (given : List (List Value)) (left groups : List (List (List Value))) : Type 0 where
  pub rows : given ++ rows_of items left ≡ rows_of items groups
  pub sums : any_overflows items left ≡ any_overflows items groups

pub progress_none : (items : List ShapeItem) (groups : List (List (List Value))) → Progress items [] groups groups
progress_none items groups = record { rows = refl; sums = refl }

moved : {X : Type 0} (given more : List X) (found : Option X) → (given ++ option_to_list found) ++ more ≡ given ++ cons_option found more
moved given more None = ap (λ xs. xs ++ more) (append-nil given)
moved given more (Some x) = append_assoc given (x ∷ []) more

or_false : (b c d : Bool) → b ≡ false → (b || c) ≡ d → c ≡ d
or_false true c d e h = cc
or_false false c d e h = h

module _ (items : List ShapeItem) (given : List (List Value)) (members : List (List Value)) (left groups : List (List (List Value))) (so_far : Progress items given (members ∷ left) groups) where
  pub progress_more : (now : List (List Value)) → group_overflows items members ≡ false → now ≡ given ++ option_to_list (row_of items members) → Progress items now left groups
  progress_more now fits more = record {
    rows = ap (λ rows. rows ++ rows_of items left) more ∙ moved given (rows_of items left) (row_of items members) ∙ so_far.rows;
    sums = or_false (group_overflows items members) (any_overflows items left) (any_overflows items groups) fits so_far.sums;
  }
