-- The kinds of answered values.
use Rattle.std.specs.Prelude.{◌≡◌, List, map, Option, Some, slice_get}
use Rattle.rs_base.specs.declared.value.Kind.{Kind}
use Rattle.rs_base.specs.declared.value.Kind.TheVariants as kinds
use Rattle.rs_base.specs.declared.value.Value.{Value}
use Rattle.rs_base.specs.Value.{kind_of}
use Rattle.rs_ast.specs.declared.shape.ShapeItem.{ShapeItem}
use Rattle.rs_ast.specs.declared.shape.ShapeItem.TheVariants as items

-- the row has a value of each of these kinds, in order
abbrev pub HasKinds : List Kind → List Value → Type 0
HasKinds known row = map kind_of row ≡ known

-- the kind of an item over columns of these kinds, if its column is there
abbrev pub item_kind : List Kind → ShapeItem → Option Kind
item_kind columns (items.Col column_index) = slice_get columns column_index
item_kind columns items.Count = Some kinds.Int
item_kind columns (items.Sum column_index) = Some kinds.Int
item_kind columns (items.Min column_index) = slice_get columns column_index
item_kind columns (items.Max column_index) = slice_get columns column_index

-- these are the kinds of the items
abbrev pub AreKindsOf : List (Option Kind) → List Kind → Type 0
AreKindsOf found known = found ≡ map (λ kind. Some kind) known
