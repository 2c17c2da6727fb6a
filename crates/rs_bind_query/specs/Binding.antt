-- A query with column indexes for names and positions for parameters. It is meant for one that isn't denied.
use Rattle.std.specs.Prelude.{ℕ, ◌-◌, ◌==◌, Bool, false, List, map, length, Option, Some, None, Result}
use Rattle.std.specs.List.{position_or_len, range_with_len}
use Rattle.rs_base.specs.declared.reply.Denial.{Denial}
use Rattle.rs_ast.specs.declared.select.Item.{Item}
use Rattle.rs_ast.specs.declared.select.Item.TheVariants as items
use Rattle.rs_ast.specs.declared.select.Key.{Key}
use Rattle.rs_ast.specs.declared.select.KeyBy.{KeyBy}
use Rattle.rs_ast.specs.declared.select.KeyBy.TheVariants as keys
use Rattle.rs_ast.specs.declared.select.Select.{Select}
use Rattle.rs_ast.specs.declared.shape.Shape.{Shape}
use Rattle.rs_ast.specs.declared.shape.ShapeItem.{ShapeItem}
use Rattle.rs_ast.specs.declared.shape.ShapeItem.TheVariants as shape_items
use Rattle.rs_ast.specs.declared.shape.ShapeKey.{ShapeKey}
use Rattle.rs_plan.specs.declared.bound.Bound.{Bound}
use Rattle.rs_plan.specs.declared.bound.Bound.TheVariants as bounds
use Rattle.rs_scope.specs.declared.heading.Heading.{Heading}
use Rattle.rs_scope.specs.declared.scope.Param.{Param}
use Rattle.rs_scope.specs.declared.scope.ScopeColumn.{ScopeColumn}
use Rattle.rs_scope.specs.Denials.{first_denial}
use Rattle.rs_scope.specs.Scope.{as_u16, column_index_of, aliases_of, query_scope}
use Rattle.rs_scope.specs.Predicates.{bound_clauses}
use Rattle.rs_plan.specs.Outcome.{unless_denied}
use Rattle.rs_bind_query.specs.Denials.{is_grouped, select_tests}

abbrev pub shape_item : List ScopeColumn → Item → ShapeItem
shape_item scope (items.Col written) = shape_items.Col (column_index_of scope written)
shape_item scope items.Count = shape_items.Count
shape_item scope (items.Sum written) = shape_items.Sum (column_index_of scope written)
shape_item scope (items.Min written) = shape_items.Min (column_index_of scope written)
shape_item scope (items.Max written) = shape_items.Max (column_index_of scope written)

-- the items; `*` is every column of the tables, in their order
abbrev pub items_shown : List ScopeColumn → Option (List Item) → List ShapeItem
items_shown scope None = map (λ column_index. shape_items.Col (as_u16 column_index)) (range_with_len 0 (length scope))
items_shown scope (Some shown) = map (shape_item scope) shown

abbrev pub shows_column : ℕ → ShapeItem → Bool
shows_column column_index (shape_items.Col other) = other == column_index
shows_column column_index shape_items.Count = false
shows_column column_index (shape_items.Sum other) = false
shows_column column_index (shape_items.Min other) = false
shows_column column_index (shape_items.Max other) = false

-- the item that a key names, counted from 0: the first one that is its column, or that of its ordinal, which counts from 1
abbrev pub key_item : List ScopeColumn → List ShapeItem → KeyBy → ℕ
key_item scope shown (keys.Col written) = as_u16 (position_or_len (shows_column (column_index_of scope written)) shown)
key_item scope shown (keys.Place n) = as_u16 (n - 1)

abbrev pub shape_key : List ScopeColumn → List ShapeItem → Key → ShapeKey
shape_key scope shown key = record { item = key_item scope shown key.by; desc = key.desc }

abbrev pub shape_of : List ScopeColumn → Select → Shape
shape_of scope select = record {
  distinct = select.distinct;
  items = items_shown scope select.items;
  group = map (column_index_of scope) select.group;
  keys = map (shape_key scope (items_shown scope select.items)) select.order;
  grouped = is_grouped select;
}

-- a query over these columns, whose tables have these aliases
abbrev pub bound_over : List ScopeColumn → List (List ℕ) → List Param → Select → List Heading → Bound
bound_over scope aliases params select headings =
    bounds.Select (map (λ heading. heading.name) headings) aliases (map (λ heading. as_u16 (length heading.columns)) headings)
    (bound_clauses scope params select.clauses) (shape_of scope select)

abbrev pub bound_select : Select → List Heading → List Param → Bound
bound_select select headings params =
    bound_over (query_scope select.from headings) (aliases_of select.from headings) params select headings

-- ---- what is bound, or the cause of the denial

unfoldable pub select_bound : Select → List Heading → List Param → Result Bound Denial
select_bound select headings params =
    unless_denied (first_denial (select_tests select headings params)) (bound_select select headings params)
