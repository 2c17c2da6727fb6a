-- The row of a group.
use Rattle.std.specs.Prelude.{ℕ, Bool, false, not, ℤ, pos, ◌+ℤ◌, List, [], ◌∷◌, map, fold, length, filter_map, Option, Some, None, option_and_then, option_map, slice_get, if◌then◌else◌}
use Rattle.std.specs.Ordering.{is_gt, is_lt}
use Rattle.rs_base.specs.declared.value.Value.{Value}
use Rattle.rs_base.specs.declared.value.Value.TheVariants as values
use Rattle.rs_base.specs.Value.{value_cmp}
use Rattle.rs_ast.specs.declared.shape.ShapeItem.{ShapeItem}
use Rattle.rs_ast.specs.declared.shape.ShapeItem.TheVariants as items
use Rattle.rs_base.specs.Integers.{is_i64}
use Rattle.rs_base.specs.Integers.{integer_of}

-- the values of a column over the rows
abbrev pub values_at : ℕ → List (List Value) → List Value
values_at column_index rows = filter_map (λ row. slice_get row column_index) rows

-- the sum of the integers, without a bound
abbrev pub sum_of : List Value → ℤ
sum_of [] = pos 0
sum_of (value ∷ given) = integer_of value +ℤ sum_of given

abbrev pub lesser : Value → Value → Value
lesser one other = if is_lt (value_cmp other one) then other else one

abbrev pub greater : Value → Value → Value
greater one other = if is_gt (value_cmp other one) then other else one

-- the least of the values, if there is one
abbrev pub least_of : List Value → Option Value
least_of [] = None
least_of (value ∷ given) = Some (fold lesser value given)

-- the greatest of the values, if there is one
abbrev pub greatest_of : List Value → Option Value
greatest_of [] = None
greatest_of (value ∷ given) = Some (fold greater value given)

-- the value of a column in the first row; the rows of a group agree in their group's columns
abbrev pub first_at : ℕ → List (List Value) → Option Value
first_at column_index [] = None
first_at column_index (row ∷ rows) = slice_get row column_index

-- the value of an item for a group, if it has one
abbrev pub item_value : List (List Value) → ShapeItem → Option Value
item_value members (items.Col column_index) = first_at column_index members
item_value members items.Count = Some (values.Int (pos (length members)))
item_value members (items.Sum column_index) = Some (values.Int (sum_of (values_at column_index members)))
item_value members (items.Min column_index) = least_of (values_at column_index members)
item_value members (items.Max column_index) = greatest_of (values_at column_index members)

-- the values, if each is there
abbrev pub all_of : {A : Type 0} → List (Option A) → Option (List A)
all_of [] = Some []
all_of (found ∷ others) = option_and_then (λ value. option_map (λ more. value ∷ more) (all_of others)) found

-- The row of a group: each item's value. A group has none if an item has no value, as MIN of no rows.
abbrev pub row_of : List ShapeItem → List (List Value) → Option (List Value)
row_of shown members = all_of (map (item_value members) shown)

-- the item is a sum that isn't an integer of 64 bits
abbrev pub item_overflows : List (List Value) → ShapeItem → Bool
item_overflows members (items.Sum column_index) = not (is_i64 (sum_of (values_at column_index members)))
item_overflows members item = false
