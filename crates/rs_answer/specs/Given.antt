-- The rows of groups, if each of their sums is an integer of 64 bits.
use Rattle.std.specs.Prelude.{◌≡◌, true, false, Bool, List, filter_map, Result, Ok, Err}
use Rattle.std.specs.List.{list_any}
use Rattle.rs_base.specs.declared.fault.OrNoMemory.{OrNoMemory}
use Rattle.rs_base.specs.declared.fault.OrNoMemory.TheVariants as faults
use Rattle.rs_base.specs.declared.value.Value.{Value}
use Rattle.rs_ast.specs.declared.shape.ShapeItem.{ShapeItem}
use Rattle.rs_answer.specs.declared.fault.Overflow.{Overflow}
use Rattle.rs_answer.specs.Items.{row_of, item_overflows}

-- a sum over the members isn't an integer of 64 bits
abbrev pub group_overflows : List ShapeItem → List (List Value) → Bool
group_overflows items members = list_any (item_overflows members) items

-- the same for one of the groups
abbrev pub any_overflows : List ShapeItem → List (List (List Value)) → Bool
any_overflows items groups = list_any (group_overflows items) groups

-- a row for each group that gives one
abbrev pub rows_of : List ShapeItem → List (List (List Value)) → List (List Value)
rows_of items groups = filter_map (row_of items) groups

-- A result has the fact if no sum overflows, and is a fault only if one does; out of memory may come at any time.
abbrev pub Gives : {T : Type 0} → Bool → (T → Type 0) → Result T (OrNoMemory Overflow) → Type 0
Gives overflows fact (Ok given) = (overflows ≡ false) × fact given
Gives overflows fact (Err (faults.Fault overflow)) = overflows ≡ true
Gives overflows fact (Err faults.NoMemory) = Unit {0}
