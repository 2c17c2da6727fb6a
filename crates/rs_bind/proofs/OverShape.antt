-- The shape of a query that is not denied is over its columns.
use Rattle.std.proofs.Common.{◌≡◌, ℕ, zero, suc, ◌+◌, ◌-◌, ◌<◌, ◌≤◌, Bool, true, false, not, ◌&&◌, ◌||◌, List, [], ◌∷◌, ◌++◌, map, length, Option, Some, None, refl, sym, ap, ap₂, ◌∙◌, ⊎_elim, arith, pos_of_ne-zero, eqb-true, eq-eqb, lt-ltb, ltb-true, ltb-false}
use Rattle.std.specs.Prelude.{◌==◌, nat_lt, flat_map}
use Rattle.std.specs.List.{list_any, list_all, position_or_len, range_with_len}
use Rattle.std.proofs.lemmas.Bool.{and_from, and_parts, cases_eq, eqb-false, not-true, not-false, or_left, or_right}
use Rattle.std.proofs.lemmas.List.{length-map}
use Rattle.std.proofs.lemmas.List.FromFn.{length-map-range_with_len}
use Rattle.rs_base.specs.declared.reply.Denial.TheVariants as denials
use Rattle.rs_base.specs.declared.value.Kind.{Kind}
use Rattle.rs_base.specs.declared.value.Kind.TheVariants as kinds
use Rattle.rs_ast.specs.declared.column.ColRef.{ColRef}
use Rattle.rs_ast.specs.declared.select.Item.{Item}
use Rattle.rs_ast.specs.declared.select.Item.TheVariants as items
use Rattle.rs_ast.specs.declared.select.Key.{Key}
use Rattle.rs_ast.specs.declared.select.KeyBy.{KeyBy}
use Rattle.rs_ast.specs.declared.select.KeyBy.TheVariants as keys
use Rattle.rs_ast.specs.declared.select.Select.{Select}
use Rattle.rs_ast.specs.declared.shape.ShapeItem.{ShapeItem}
use Rattle.rs_ast.specs.declared.shape.ShapeItem.TheVariants as shape_items
use Rattle.rs_ast.specs.declared.shape.ShapeKey.{ShapeKey}
use Rattle.rs_ast.specs.Kinds.{kinds_fit}
use Rattle.rs_plan.specs.Over.{is_column_index, item_fits, is_filled, IsShapeOver}
use Rattle.rs_plan.specs.Over as over
use Rattle.rs_scope.specs.declared.scope.Param.{Param}
use Rattle.rs_scope.specs.declared.scope.ScopeColumn.{ScopeColumn}
use Rattle.rs_bind_query.specs.Binding.{shape_item, items_shown, shows_column, key_item, shape_key, shape_of}
use Rattle.rs_bind_query.specs.Denials.{item_tests, items_tests, key_tests, names_tests, is_aggregate, has_aggregate, is_grouped, is_same_column, is_of_group, are_of_group, grouping_test, is_item_of, is_shown, item_count, names_item, keys_tests}
use Rattle.rs_scope.specs.Denials.{test, first_denial, column_tests, clauses_tests}
use Rattle.rs_scope.specs.Scope.{as_u16, column_index_of, column_kind}
use Rattle.rs_bind.proofs.OverScope.{kinds_in, any_found, column_there, column_index_kind}
use Rattle.rs_bind.proofs.OverTests.{first_passes, both_pass, each_passes, each_passes_too, all_made, any_made}

-- an item that is the column of this index
abbrev column_at : ℕ → ShapeItem
column_at column_index = shape_items.Col (as_u16 column_index)

-- ---- `*`: every column

range_fits : (columns : List Kind) (a n : ℕ) → a + n ≤ length columns → list_all (item_fits columns) (map column_at (range_with_len a n)) ≡ true
range_fits columns a zero within = refl
range_fits columns a (suc n) within =
    and_from _ _ (lt-ltb (as_u16 a) (length columns) (omega arith)) (range_fits columns (a + 1) n (omega arith))

range_shows : (column_index a n : ℕ) → a ≤ column_index → column_index < a + n → column_index ≤ 65535 → list_any (shows_column column_index) (map column_at (range_with_len a n)) ≡ true
range_shows column_index a zero low high small = absurd (omega arith)
range_shows column_index a (suc n) low high small =
    ⊎_elim (λ (same : a ≡ column_index). or_left _ _ (eq-eqb (as_u16 a) column_index (omega arith)))
    (λ (differ : a ≡ column_index → ⊥). or_right _ _ (range_shows column_index (a + 1) n (omega arith) (omega arith) small))
    (cases_eq a column_index)

range_plain : (a n : ℕ) → list_any over.is_aggregate (map column_at (range_with_len a n)) ≡ false
range_plain a zero = refl
range_plain a (suc n) = range_plain (a + 1) n

module _ (scope : List ScopeColumn) where
  -- ---- items

  pub length-shown : (shown : Option (List Item)) → length (items_shown scope shown) ≡ item_count scope shown
  length-shown None = length-map-range_with_len column_at 0 (length scope)
  length-shown (Some shown) = length-map shown (shape_item scope)

  -- an item that is a column is that column in the shape
  item_shows : (written : ColRef) (item : Item) → is_item_of scope written item ≡ true → shows_column (column_index_of scope written) (shape_item scope item) ≡ true
  item_shows written (items.Col shown) e = eq-eqb (column_index_of scope shown) (column_index_of scope written) (sym (eqb-true (column_index_of scope written) (column_index_of scope shown) e))
  item_shows written items.Count e = absurd cc
  item_shows written (items.Sum shown) e = absurd cc
  item_shows written (items.Min shown) e = absurd cc
  item_shows written (items.Max shown) e = absurd cc

  item_aggregate : (item : Item) → is_aggregate item ≡ over.is_aggregate (shape_item scope item)
  item_aggregate (items.Col shown) = refl
  item_aggregate items.Count = refl
  item_aggregate (items.Sum shown) = refl
  item_aggregate (items.Min shown) = refl
  item_aggregate (items.Max shown) = refl

  any_aggregate : (shown : List Item) → list_any is_aggregate shown ≡ list_any over.is_aggregate (map (shape_item scope) shown)
  any_aggregate [] = refl
  any_aggregate (item ∷ shown) = ap₂ (λ x y. x || y) (item_aggregate item) (any_aggregate shown)

  has_aggregate_shown : (shown : Option (List Item)) → has_aggregate shown ≡ list_any over.is_aggregate (items_shown scope shown)
  has_aggregate_shown None = sym (range_plain 0 (length scope))
  has_aggregate_shown (Some shown) = any_aggregate shown

  -- ---- groups

  filled : (group : List ColRef) → is_filled group ≡ is_filled (map (column_index_of scope) group)
  filled [] = refl
  filled (written ∷ group) = refl

  item_of_group : (group : List ColRef) (item : Item) → is_of_group scope group item ≡ true → over.is_of_group (map (column_index_of scope) group) (shape_item scope item) ≡ true
  item_of_group group (items.Col shown) e =
      any_made (column_index_of scope) (λ other. column_index_of scope shown == other) (is_same_column scope shown) (λ written same. same) group e
  item_of_group group items.Count e = refl
  item_of_group group (items.Sum shown) e = refl
  item_of_group group (items.Min shown) e = refl
  item_of_group group (items.Max shown) e = refl

  shown_of_group : (group : List ColRef) (shown : Option (List Item)) → are_of_group scope group shown ≡ true
      → list_all (over.is_of_group (map (column_index_of scope) group)) (items_shown scope shown) ≡ true
  shown_of_group group None e = absurd cc
  shown_of_group group (Some shown) e =
      all_made (shape_item scope) (over.is_of_group (map (column_index_of scope) group)) (is_of_group scope group) (item_of_group group) shown e

  -- a query that is grouped, or not, shows what it may
  group_over : (grouped : Bool) (group : List ColRef) (shown : Option (List Item)) → (grouped && not (are_of_group scope group shown)) ≡ false
      → (not grouped || list_all (over.is_of_group (map (column_index_of scope) group)) (items_shown scope shown)) ≡ true
  group_over false group shown e = refl
  group_over true group shown e = shown_of_group group shown (not-false (are_of_group scope group shown) e)

  -- ---- keys

  -- a column that is there and shown is among the items
  pub key_shown : (shown : Option (List Item)) (written : ColRef) → is_column_index (kinds_in scope) (column_index_of scope written) ≡ true → is_shown scope shown written ≡ true
      → list_any (shows_column (column_index_of scope written)) (items_shown scope shown) ≡ true
  key_shown None written there e =
      let within = ltb-true (column_index_of scope written) (length (kinds_in scope)) there in
      let mapped = length-map scope (λ (column : ScopeColumn). column.kind) in
      range_shows (column_index_of scope written) 0 (length scope) (omega arith) (omega arith) (omega arith)
  key_shown (Some shown) written there e =
      any_made (shape_item scope) (shows_column (column_index_of scope written)) (is_item_of scope written) (item_shows written) shown e

  key_over : (select : Select) (by : KeyBy) → first_denial (key_tests scope by) ≡ None → names_item scope select by ≡ true
      → nat_lt (key_item scope (items_shown scope select.items) by) (length (items_shown scope select.items)) ≡ true
  key_over select (keys.Col written) passes named =
      let column_index = column_index_of scope written in
      let shown = items_shown scope select.items in
      let found = any_found (shows_column column_index) shown (key_shown select.items written (column_there scope written passes) named) in
      lt-ltb (as_u16 (position_or_len (shows_column column_index) shown)) (length shown) (omega arith)
  key_over select (keys.Place n) passes named =
      let shown = items_shown scope select.items in
      let parts = and_parts (not (n == 0)) (not (nat_lt (item_count scope select.items) n)) named in
      let many = ltb-false (item_count scope select.items) n (not-true (nat_lt (item_count scope select.items) n) parts.1) in
      let long = length-shown select.items in
      let some : 0 < n = pos_of_ne-zero (eqb-false n 0 (not-true (n == 0) parts.0)) in
      lt-ltb (as_u16 (n - 1)) (length shown) (omega arith)

  -- ---- the shape

  module _ (small : length scope ≤ 96) where
    item_over : (item : Item) → first_denial (item_tests scope item) ≡ None → item_fits (kinds_in scope) (shape_item scope item) ≡ true
    item_over (items.Col written) passes = column_there scope written passes
    item_over items.Count passes = refl
    item_over (items.Sum written) passes =
        let integers = test (not (kinds_fit (Some kinds.Int) (column_kind scope written))) denials.WrongType in
        let parts = both_pass (column_tests scope written) (integers ∷ []) passes in
        let fits = not-false _ (first_passes integers [] parts.1).0 in
        and_from _ _ (column_there scope written parts.0) (ap (kinds_fit (Some kinds.Int)) (column_index_kind scope small written) ∙ fits)
    item_over (items.Min written) passes = column_there scope written passes
    item_over (items.Max written) passes = column_there scope written passes

    items_over : (shown : Option (List Item)) → first_denial (items_tests scope shown) ≡ None → list_all (item_fits (kinds_in scope)) (items_shown scope shown) ≡ true
    items_over None passes =
        let mapped = length-map scope (λ (column : ScopeColumn). column.kind) in
        range_fits (kinds_in scope) 0 (length scope) (omega arith)
    items_over (Some shown) passes = each_passes (shape_item scope) (item_fits (kinds_in scope)) (item_tests scope) item_over shown passes

    pub shape_over : (params : List Param) (select : Select) → first_denial (names_tests scope params select) ≡ None
        → first_denial (grouping_test scope select ∷ keys_tests scope select) ≡ None → IsShapeOver (kinds_in scope) (shape_of scope select)
    shape_over params select names rest =
        let shown = items_tests scope select.items in
        let clauses = clauses_tests scope params select.clauses in
        let group = flat_map (column_tests scope) select.group in
        let order = flat_map (λ (key : Key). key_tests scope key.by) select.order in
        let before_order = both_pass (shown ++ clauses ++ group) order names in
        let before_group = both_pass (shown ++ clauses) group before_order.0 in
        let before_clauses = both_pass shown clauses before_group.0 in
        let grouping = first_passes (grouping_test scope select) (keys_tests scope select) rest in
        record {
          items = items_over select.items before_clauses.0;
          group = each_passes (column_index_of scope) (is_column_index (kinds_in scope)) (column_tests scope) (column_there scope) select.group before_group.1;
          keys =
              each_passes_too (shape_key scope (items_shown scope select.items)) (λ (key : ShapeKey). nat_lt key.item (length (items_shown scope select.items)))
              (λ (key : Key). key_tests scope key.by) (λ (key : Key). test (not (names_item scope select key.by)) denials.NoColumn)
              (λ key passes named. key_over select key.by passes (not-false (names_item scope select key.by) named)) select.order before_order.1 grouping.1;
          grouped = ap₂ (λ x y. x || y) (has_aggregate_shown select.items) (filled select.group);
          grouped_items = group_over (is_grouped select) select.group select.items grouping.0;
        }
