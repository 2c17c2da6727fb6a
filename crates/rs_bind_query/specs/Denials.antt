-- The tests of a query's names and kinds, in their order: the first that fails denies it. That the tables exist is tested
-- before, and their rows after.
use Rattle.std.specs.Prelude.{ℕ, Bool, true, false, ◌&&◌, ◌||◌, not, ◌==◌, nat_lt, List, [], ◌∷◌, ◌++◌, map, flat_map, length, bytes_eq, Option, Some, None}
use Rattle.std.specs.List.{list_any, list_all}
use Rattle.rs_base.specs.declared.reply.Denial.TheVariants as denials
use Rattle.rs_base.specs.declared.value.Kind.TheVariants as kinds
use Rattle.rs_ast.specs.declared.column.ColRef.{ColRef}
use Rattle.rs_ast.specs.declared.select.Item.{Item}
use Rattle.rs_ast.specs.declared.select.Item.TheVariants as items
use Rattle.rs_ast.specs.declared.select.KeyBy.{KeyBy}
use Rattle.rs_ast.specs.declared.select.KeyBy.TheVariants as keys
use Rattle.rs_ast.specs.declared.select.Select.{Select}
use Rattle.rs_ast.specs.Kinds.{kinds_fit}
use Rattle.rs_plan.specs.Over.{is_filled}
use Rattle.rs_scope.specs.declared.heading.Heading.{Heading}
use Rattle.rs_scope.specs.declared.scope.Param.{Param}
use Rattle.rs_scope.specs.declared.scope.ScopeColumn.{ScopeColumn}
use Rattle.rs_scope.specs.Scope.{column_index_of, column_kind, aliases_of, query_scope}
use Rattle.rs_scope.specs.Denials.{Test, test, column_tests, clauses_tests}

-- the column of an item; a sum is over integers
abbrev pub item_tests : List ScopeColumn → Item → List Test
item_tests scope (items.Col written) = column_tests scope written
item_tests scope items.Count = []
item_tests scope (items.Sum written) =
    column_tests scope written ++ test (not (kinds_fit (Some kinds.Int) (column_kind scope written))) denials.WrongType ∷ []
item_tests scope (items.Min written) = column_tests scope written
item_tests scope (items.Max written) = column_tests scope written

abbrev pub items_tests : List ScopeColumn → Option (List Item) → List Test
items_tests scope None = []
items_tests scope (Some shown) = flat_map (item_tests scope) shown

abbrev pub key_tests : List ScopeColumn → KeyBy → List Test
key_tests scope (keys.Col written) = column_tests scope written
key_tests scope (keys.Place n) = []

-- each column and each comparison, in the order of the text
abbrev pub names_tests : List ScopeColumn → List Param → Select → List Test
names_tests scope params select =
    items_tests scope select.items ++ clauses_tests scope params select.clauses
    ++ flat_map (column_tests scope) select.group ++ flat_map (λ key. key_tests scope key.by) select.order

-- each differs from each after it
abbrev pub all_differ : List (List ℕ) → Bool
all_differ [] = true
all_differ (name ∷ names) = not (list_any (bytes_eq name) names) && all_differ names

abbrev pub is_aggregate : Item → Bool
is_aggregate (items.Col written) = false
is_aggregate items.Count = true
is_aggregate (items.Sum written) = true
is_aggregate (items.Min written) = true
is_aggregate (items.Max written) = true

abbrev pub has_aggregate : Option (List Item) → Bool
has_aggregate None = false
has_aggregate (Some shown) = list_any is_aggregate shown

-- there is an aggregate, or GROUP BY
abbrev pub is_grouped : Select → Bool
is_grouped select = has_aggregate select.items || is_filled select.group

abbrev pub is_same_column : List ScopeColumn → ColRef → ColRef → Bool
is_same_column scope one other = column_index_of scope one == column_index_of scope other

-- the item is an aggregate, or one of the columns to group by
abbrev pub is_of_group : List ScopeColumn → List ColRef → Item → Bool
is_of_group scope group (items.Col written) = list_any (is_same_column scope written) group
is_of_group scope group items.Count = true
is_of_group scope group (items.Sum written) = true
is_of_group scope group (items.Min written) = true
is_of_group scope group (items.Max written) = true

-- each item is so; `*` isn't
abbrev pub are_of_group : List ScopeColumn → List ColRef → Option (List Item) → Bool
are_of_group scope group None = false
are_of_group scope group (Some shown) = list_all (is_of_group scope group) shown

-- a query that is grouped shows only aggregates and columns to group by
abbrev pub grouping_test : List ScopeColumn → Select → Test
grouping_test scope select = test (is_grouped select && not (are_of_group scope select.group select.items)) denials.WrongType

-- the item is this column
abbrev pub is_item_of : List ScopeColumn → ColRef → Item → Bool
is_item_of scope written (items.Col shown) = is_same_column scope written shown
is_item_of scope written items.Count = false
is_item_of scope written (items.Sum shown) = false
is_item_of scope written (items.Min shown) = false
is_item_of scope written (items.Max shown) = false

-- the column is shown as it is; `*` shows each
abbrev pub is_shown : List ScopeColumn → Option (List Item) → ColRef → Bool
is_shown scope None written = true
is_shown scope (Some shown) written = list_any (is_item_of scope written) shown

abbrev pub item_count : List ScopeColumn → Option (List Item) → ℕ
item_count scope None = length scope
item_count scope (Some shown) = length shown

-- the key names an item: a column that is shown as it is, or an ordinal from 1 to the number of items
abbrev pub names_item : List ScopeColumn → Select → KeyBy → Bool
names_item scope select (keys.Col written) = is_shown scope select.items written
names_item scope select (keys.Place n) = not (n == 0) && not (nat_lt (item_count scope select.items) n)

abbrev pub keys_tests : List ScopeColumn → Select → List Test
keys_tests scope select = map (λ key. test (not (names_item scope select key.by)) denials.NoColumn) select.order

-- of a query over these columns, whose tables have these aliases: two tables have one alias; the names in the order of the
-- text; the grouping; the keys
abbrev pub tests_over : List ScopeColumn → List (List ℕ) → List Param → Select → List Test
tests_over scope aliases params select =
    test (not (all_differ aliases)) denials.TwoColumns
    ∷ names_tests scope params select ++ grouping_test scope select ∷ keys_tests scope select

abbrev pub select_tests : Select → List Heading → List Param → List Test
select_tests select headings params =
    tests_over (query_scope select.from headings) (aliases_of select.from headings) params select
