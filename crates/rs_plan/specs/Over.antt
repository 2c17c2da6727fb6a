-- When a bound statement is over the tables that entries describe, and fits the values of its parameters. Where the kinds
-- of the values aren't known, a parameter fits any kind.
use Rattle.std.specs.Prelude.{◌≡◌, ◌≤◌, ℕ, Bool, true, false, ◌&&◌, ◌||◌, not, ◌==◌, nat_lt, List, [], ◌∷◌, map, flat_map, length, Option, Some, None, slice_get, IsTrue, All}
use Rattle.std.specs.List.{list_any, list_all}
use Rattle.std.specs.Cmp.Lexicographic.{pointwise}
use Rattle.rs_base.specs.declared.name.Swn.{Swn}
use Rattle.rs_base.specs.declared.value.Kind.{Kind}
use Rattle.rs_base.specs.declared.value.Kind.TheVariants as kinds
use Rattle.rs_base.specs.Value.{kind_of}
use Rattle.rs_ast.specs.declared.bound.BoundCmp.{BoundCmp}
use Rattle.rs_ast.specs.declared.bound.BoundSet.{BoundSet}
use Rattle.rs_ast.specs.declared.bound.BoundSide.{BoundSide}
use Rattle.rs_ast.specs.declared.bound.BoundSide.TheVariants as sides
use Rattle.rs_ast.specs.declared.bound.BoundTerm.{BoundTerm}
use Rattle.rs_ast.specs.declared.bound.BoundTerm.TheVariants as terms
use Rattle.rs_ast.specs.declared.change.Arith.{Arith}
use Rattle.rs_ast.specs.declared.entry.Entry.{Entry}
use Rattle.rs_ast.specs.declared.shape.Shape.{Shape}
use Rattle.rs_ast.specs.declared.shape.ShapeItem.{ShapeItem}
use Rattle.rs_ast.specs.declared.shape.ShapeItem.TheVariants as items
use Rattle.rs_plan.specs.declared.bound.Bound.{Bound}
use Rattle.rs_plan.specs.declared.bound.Bound.TheVariants as bounds
use Rattle.rs_ast.specs.Kinds.{kinds_fit}

-- ---- columns

-- the kinds of the columns, by column index
abbrev pub kinds_of : List Entry → List Kind
kinds_of entries = flat_map (λ entry. map (λ column. column.kind) entry.columns) entries

abbrev pub is_column_index : List Kind → ℕ → Bool
is_column_index columns column_index = nat_lt column_index (length columns)

-- there is such a column, and it has this kind
abbrev pub has_kind : List Kind → Kind → ℕ → Bool
has_kind columns kind column_index = is_column_index columns column_index && kinds_fit (Some kind) (slice_get columns column_index)

-- ---- parameters, whose values have these kinds, if they are known

-- there is a value for the parameter
abbrev pub has_value : Option (List Kind) → ℕ → Bool
has_value None param = true
has_value (Some given) param = nat_lt param (length given)

-- the kind of the parameter's value, if it is known
abbrev pub param_kind : Option (List Kind) → ℕ → Option Kind
param_kind None param = None
param_kind (Some given) param = slice_get given param

---- predicates

abbrev pub side_kind : List Kind → Option (List Kind) → BoundSide → Option Kind
side_kind columns given (sides.Place column_index) = slice_get columns column_index
side_kind columns given (sides.Lit value) = Some (kind_of value)
side_kind columns given (sides.Param param) = param_kind given param

-- its column is there, or its value
abbrev pub side_is_there : List Kind → Option (List Kind) → BoundSide → Bool
side_is_there columns given (sides.Place column_index) = is_column_index columns column_index
side_is_there columns given (sides.Lit value) = true
side_is_there columns given (sides.Param param) = has_value given param

-- its columns and values are there, and its two operands have one kind
abbrev pub cmp_fits : List Kind → Option (List Kind) → BoundCmp → Bool
cmp_fits columns given cmp =
    is_column_index columns cmp.left && side_is_there columns given cmp.right && kinds_fit (slice_get columns cmp.left) (side_kind columns given cmp.right)

abbrev pub clauses_fit : List Kind → Option (List Kind) → List (List BoundCmp) → Bool
clauses_fit columns given clauses = list_all (list_all (cmp_fits columns given)) clauses

-- ---- queries

-- its column is there; a sum is over integers
abbrev pub item_fits : List Kind → ShapeItem → Bool
item_fits columns (items.Col column_index) = is_column_index columns column_index
item_fits columns items.Count = true
item_fits columns (items.Sum column_index) = has_kind columns kinds.Int column_index
item_fits columns (items.Min column_index) = is_column_index columns column_index
item_fits columns (items.Max column_index) = is_column_index columns column_index

abbrev pub is_aggregate : ShapeItem → Bool
is_aggregate (items.Col column_index) = false
is_aggregate items.Count = true
is_aggregate (items.Sum column_index) = true
is_aggregate (items.Min column_index) = true
is_aggregate (items.Max column_index) = true

abbrev pub is_filled : {A : Type 0} → List A → Bool
is_filled [] = false
is_filled (item ∷ items) = true

-- the item is no column, or one of the group
abbrev pub is_of_group : List ℕ → ShapeItem → Bool
is_of_group group (items.Col column_index) = list_any (λ other. column_index == other) group
is_of_group group items.Count = true
is_of_group group (items.Sum column_index) = true
is_of_group group (items.Min column_index) = true
is_of_group group (items.Max column_index) = true

-- The shape is over these columns: all its columns, items and keys are there; it is grouped exactly if an item is an
-- aggregate or there are columns to group by; and then each item that is a column is one of these.
pub record IsShapeOver (columns : List Kind) (shape : Shape) : Type 0 where
  pub items : IsTrue (list_all (item_fits columns) shape.items)
  pub group : IsTrue (list_all (is_column_index columns) shape.group)
  pub keys : IsTrue (list_all (λ key. nat_lt key.item (length shape.items)) shape.keys)
  pub grouped : shape.grouped ≡ (list_any is_aggregate shape.items || is_filled shape.group)
  pub grouped_items : IsTrue (not shape.grouped || list_all (is_of_group shape.group) shape.items)

-- ---- changes

abbrev pub term_kind : List Kind → Option (List Kind) → BoundTerm → Option Kind
term_kind columns given (terms.Place column_index) = slice_get columns column_index
term_kind columns given (terms.Lit value) = Some (kind_of value)
term_kind columns given (terms.Param param) = param_kind given param

-- its column is there, or its value
abbrev pub term_is_there : List Kind → Option (List Kind) → BoundTerm → Bool
term_is_there columns given (terms.Place column_index) = is_column_index columns column_index
term_is_there columns given (terms.Lit value) = true
term_is_there columns given (terms.Param param) = has_value given param

-- its column or value is there, and it fits the kind
abbrev pub term_fits : List Kind → Option (List Kind) → Kind → BoundTerm → Bool
term_fits columns given kind term = term_is_there columns given term && kinds_fit (Some kind) (term_kind columns given term)

abbrev pub more_fits : List Kind → Option (List Kind) → Option (Arith × BoundTerm) → Bool
more_fits columns given None = true
more_fits columns given (Some (op, second)) = term_fits columns given kinds.Int second

-- the kind that an assignment computes: an integer if two terms are combined, and else that of its column
abbrev pub set_kind : Kind → Option (Arith × BoundTerm) → Kind
set_kind kind None = kind
set_kind kind (Some more) = kinds.Int

abbrev pub set_fits_kind : List Kind → Option (List Kind) → BoundSet → Option Kind → Bool
set_fits_kind columns given set None = false
set_fits_kind columns given set (Some kind) =
    kinds_fit (Some kind) (Some (set_kind kind set.more)) && term_fits columns given kind set.first && more_fits columns given set.more

-- its columns and values are there, what it computes has the kind of its column, and only integers are computed with
abbrev pub set_fits : List Kind → Option (List Kind) → BoundSet → Bool
set_fits columns given set = set_fits_kind columns given set (slice_get columns set.column)

-- a value, or a parameter with a value, and no column
abbrev pub is_given : Option (List Kind) → BoundTerm → Bool
is_given given (terms.Place column_index) = false
is_given given (terms.Lit value) = true
is_given given (terms.Param param) = has_value given param

-- the row has a term for each column, of its kind
abbrev pub row_fits : List Kind → Option (List Kind) → List BoundTerm → Bool
row_fits columns given row = list_all (is_given given) row && pointwise (λ term kind. kinds_fit (Some kind) (term_kind columns given term)) row columns

-- ---- statements

abbrev pub IsNarrow : Entry → Type 0
IsNarrow entry = length entry.columns ≤ 16

-- There is an entry for each table, in order, with its name: at most 6 entries, of at most 16 columns each.
pub record AreEntriesOf (names : List Swn) (entries : List Entry) : Type 0 where
  pub in_order : names ≡ map (λ entry. entry.name) entries
  pub few : length entries ≤ 6
  pub narrow : All IsNarrow entries

pub record IsSelectOver (names : List Swn) (aliases : List (List ℕ)) (widths : List ℕ) (clauses : List (List BoundCmp)) (shape : Shape) (entries : List Entry) (given : Option (List Kind)) : Type 0 where
  pub tables : AreEntriesOf names entries
  pub named : length aliases ≡ length entries
  pub wide : widths ≡ map (λ entry. length entry.columns) entries
  pub clauses_are : IsTrue (clauses_fit (kinds_of entries) given clauses)
  pub shape_is : IsShapeOver (kinds_of entries) shape

pub record IsInsertOver (name : Swn) (rows : List (List BoundTerm)) (entries : List Entry) (given : Option (List Kind)) : Type 0 where
  pub tables : AreEntriesOf (name ∷ []) entries
  pub rows_are : IsTrue (list_all (row_fits (kinds_of entries) given) rows)

pub record IsUpdateOver (name : Swn) (sets : List BoundSet) (clauses : List (List BoundCmp)) (entries : List Entry) (given : Option (List Kind)) : Type 0 where
  pub tables : AreEntriesOf (name ∷ []) entries
  pub sets_are : IsTrue (list_all (set_fits (kinds_of entries) given) sets)
  pub clauses_are : IsTrue (clauses_fit (kinds_of entries) given clauses)

pub record IsDeleteOver (name : Swn) (clauses : List (List BoundCmp)) (entries : List Entry) (given : Option (List Kind)) : Type 0 where
  pub tables : AreEntriesOf (name ∷ []) entries
  pub clauses_are : IsTrue (clauses_fit (kinds_of entries) given clauses)

-- the statement is over the tables that the entries describe, and fits values of these kinds, if they are known
abbrev pub IsOver : Bound → List Entry → Option (List Kind) → Type 0
IsOver (bounds.Select names aliases widths clauses shape) entries given = IsSelectOver names aliases widths clauses shape entries given
IsOver (bounds.Insert name rows) entries given = IsInsertOver name rows entries given
IsOver (bounds.Update name sets clauses) entries given = IsUpdateOver name sets clauses entries given
IsOver (bounds.Delete name clauses) entries given = IsDeleteOver name clauses entries given
