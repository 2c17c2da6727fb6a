-- The shape of a query that is not denied is as it is written.
use Rattle.std.proofs.Common.{◌≡◌, ℕ, zero, suc, ◌+◌, ◌-◌, ◌<◌, ◌≤◌, true, false, not, List, [], ◌∷◌, ◌++◌, map, length, Option, Some, None, refl, ap, ap₂, ◌∙◌, arith, pos_of_ne-zero, eqb-true, ltb-false}
use Rattle.std.specs.Prelude.{◌==◌, nat_lt, flat_map}
use Rattle.std.specs.List.{position_or_len, range_with_len, slice_get}
use Rattle.std.proofs.lemmas.Bool.{and_parts, eqb-false, not-true, not-false}
use Rattle.rs_base.specs.declared.reply.Denial.TheVariants as denials
use Rattle.rs_base.specs.declared.value.Kind.TheVariants as kinds
use Rattle.rs_ast.specs.declared.select.Item.{Item}
use Rattle.rs_ast.specs.declared.select.Item.TheVariants as items
use Rattle.rs_ast.specs.declared.select.Key.{Key}
use Rattle.rs_ast.specs.declared.select.KeyBy.{KeyBy}
use Rattle.rs_ast.specs.declared.select.KeyBy.TheVariants as keys
use Rattle.rs_ast.specs.declared.select.Select.{Select}
use Rattle.rs_ast.specs.declared.shape.ShapeItem.{ShapeItem}
use Rattle.rs_ast.specs.declared.shape.ShapeItem.TheVariants as shape_items
use Rattle.rs_ast.specs.Kinds.{kinds_fit}
use Rattle.rs_scope.specs.declared.scope.Param.{Param}
use Rattle.rs_scope.specs.declared.scope.ScopeColumn.{ScopeColumn}
use Rattle.rs_scope.specs.Denials.{test, first_denial, column_tests, clauses_tests}
use Rattle.rs_scope.specs.Scope.{as_u16, column_index_of, column_kind}
use Rattle.rs_bind_query.specs.Binding.{shape_item, items_shown, shows_column, key_item, shape_key, shape_of}
use Rattle.rs_bind_query.specs.Denials.{item_tests, items_tests, key_tests, names_tests, grouping_test, item_count, names_item, keys_tests}
use Rattle.rs_bind.specs.AsWritten.{IsOnlyAt, IsItemAs, AreItemsAs, IsKeyBy, IsKeyAs, IsShapeAs}
use Rattle.rs_bind.proofs.AsClauses.{each_as, each_as_too, column_as}
use Rattle.rs_bind.proofs.OverScope.{any_found, column_there}
use Rattle.rs_bind.proofs.OverShape.{length-shown, key_shown}
use Rattle.rs_bind.proofs.OverTests.{first_passes, both_pass}
use Rattle.rs_bind.proofs.Places.{found_at}

-- no column index of `*` is cut
range_as : (a n : ℕ) → a + n ≤ 65535
    → map (λ column_index. shape_items.Col (as_u16 column_index)) (range_with_len a n) ≡ map (λ column_index. shape_items.Col column_index) (range_with_len a n)
range_as a zero within = refl
range_as a (suc n) within =
    let index : as_u16 a ≡ a = omega arith in
    ap₂ (λ (column_index : ℕ) (others : List ShapeItem). shape_items.Col column_index ∷ others) index (range_as (a + 1) n (omega arith))

-- an item that shows a column is that column
shown_is : (column_index : ℕ) (item : ShapeItem) → shows_column column_index item ≡ true → item ≡ shape_items.Col column_index
shown_is column_index (shape_items.Col other) e = ap (λ (i : ℕ). shape_items.Col i) (eqb-true other column_index e)
shown_is column_index shape_items.Count e = absurd cc
shown_is column_index (shape_items.Sum other) e = absurd cc
shown_is column_index (shape_items.Min other) e = absurd cc
shown_is column_index (shape_items.Max other) e = absurd cc

module _ (scope : List ScopeColumn) (few : length scope ≤ 96) where
  item_as : (item : Item) → first_denial (item_tests scope item) ≡ None → IsItemAs scope item (shape_item scope item)
  item_as (items.Col written) passes = column_as scope few written passes
  item_as items.Count passes = tt
  item_as (items.Sum written) passes =
      let integers = test (not (kinds_fit (Some kinds.Int) (column_kind scope written))) denials.WrongType in
      column_as scope few written (both_pass (column_tests scope written) (integers ∷ []) passes).0
  item_as (items.Min written) passes = column_as scope few written passes
  item_as (items.Max written) passes = column_as scope few written passes

  items_as : (shown : Option (List Item)) → first_denial (items_tests scope shown) ≡ None → AreItemsAs scope shown (items_shown scope shown)
  items_as None passes = range_as 0 (length scope) (omega arith)
  items_as (Some shown) passes = each_as (shape_item scope) (IsItemAs scope) (item_tests scope) item_as shown passes

  module _ (select : Select) (short : item_count scope select.items ≤ 96) where
    key_by : (by : KeyBy) → first_denial (key_tests scope by) ≡ None → names_item scope select by ≡ true
        → IsKeyBy scope (items_shown scope select.items) by (key_item scope (items_shown scope select.items) by)
    key_by (keys.Col written) passes is_item =
        let column_index = column_index_of scope written in
        let shown = items_shown scope select.items in
        let long = length-shown scope select.items in
        let within = any_found (shows_column column_index) shown (key_shown scope select.items written (column_there scope written passes) is_item) in
        let ordinal : as_u16 (position_or_len (shows_column column_index) shown) ≡ position_or_len (shows_column column_index) shown = omega arith in
        let found = found_at (shows_column column_index) shown within in
        record {
          column_index = column_index;
          there = ap (slice_get shown) ordinal ∙ found.1 ∙ ap (λ (item : ShapeItem). Some item) (shown_is column_index found.0 found.2);
          named = column_as scope few written passes;
        }
    key_by (keys.Place n) passes is_item =
        let parts = and_parts (not (n == 0)) (not (nat_lt (item_count scope select.items) n)) is_item in
        let many = ltb-false (item_count scope select.items) n (not-true (nat_lt (item_count scope select.items) n) parts.1) in
        let some : 0 < n = pos_of_ne-zero (eqb-false n 0 (not-true (n == 0) parts.0)) in
        let written : n ≡ as_u16 (n - 1) + 1 = omega arith in
        written

    key_as : (key : Key) → first_denial (key_tests scope key.by) ≡ None → (not (names_item scope select key.by)) ≡ false
        → IsKeyAs scope (items_shown scope select.items) key (shape_key scope (items_shown scope select.items) key)
    key_as key passes is_item = record { by = key_by key.by passes (not-false (names_item scope select key.by) is_item); desc = refl }

    pub shape_as : (params : List Param) → first_denial (names_tests scope params select) ≡ None
        → first_denial (grouping_test scope select ∷ keys_tests scope select) ≡ None → IsShapeAs scope select (shape_of scope select)
    shape_as params names rest =
        let shown = items_tests scope select.items in
        let clauses = clauses_tests scope params select.clauses in
        let group = flat_map (column_tests scope) select.group in
        let order = flat_map (λ (key : Key). key_tests scope key.by) select.order in
        let before_order = both_pass (shown ++ clauses ++ group) order names in
        let before_group = both_pass (shown ++ clauses) group before_order.0 in
        let before_clauses = both_pass shown clauses before_group.0 in
        let grouping = first_passes (grouping_test scope select) (keys_tests scope select) rest in
        record {
          distinct = refl;
          items = items_as select.items before_clauses.0;
          group = each_as (column_index_of scope) (IsOnlyAt scope) (column_tests scope) (column_as scope few) select.group before_group.1;
          keys =
              each_as_too (shape_key scope (items_shown scope select.items)) (IsKeyAs scope (items_shown scope select.items)) (λ (key : Key). key_tests scope key.by)
              (λ (key : Key). test (not (names_item scope select key.by)) denials.NoColumn) key_as select.order before_order.1 grouping.1;
          grouped = refl;
        }
