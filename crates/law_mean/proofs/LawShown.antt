-- The kinds of a query's answer.
use Rattle.std.proofs.Common.{◌≡◌, ℕ, ◌+◌, ◌*◌, ◌≤◌, suc, Bool, true, false, cond, not, ◌==◌, List, [], ◌∷◌, ◌++◌, map, length, All, Option, Some, None, IfSome, Result, Ok, Err, flat_map, slice_get, nat_lt, refl, sym, ap, ap₂, ◌∙◌, subst, arith, length-append}
use Rattle.std.specs.List.{range_with_len}
use Rattle.std.proofs.lemmas.List.{length-map, map-append}
use Rattle.std.proofs.lemmas.List.Elements.{All-nil, All-cons, All-head, All-tail, All-append, All-filter}
use Rattle.rs_base.specs.declared.name.Swn.{Swn}
use Rattle.rs_base.specs.declared.reply.Denial.{Denial}
use Rattle.rs_base.specs.declared.reply.Denial.TheVariants as denials
use Rattle.rs_base.specs.declared.value.Kind.{Kind}
use Rattle.rs_base.specs.declared.value.Kind.TheVariants as kinds
use Rattle.rs_base.specs.declared.value.Value.{Value}
use Rattle.rs_base.specs.Value.{kind_of}
use Rattle.rs_ast.specs.declared.bound.BoundCmp.{BoundCmp}
use Rattle.rs_ast.specs.declared.column.ColDef.{ColDef}
use Rattle.rs_ast.specs.declared.column.ColRef.{ColRef}
use Rattle.rs_ast.specs.declared.select.Item.{Item}
use Rattle.rs_ast.specs.declared.select.Item.TheVariants as items
use Rattle.rs_ast.specs.declared.select.Key.{Key}
use Rattle.rs_ast.specs.declared.select.Select.{Select}
use Rattle.rs_ast.specs.declared.select.TableRef.{TableRef}
use Rattle.rs_ast.specs.declared.shape.Shape.{Shape}
use Rattle.rs_ast.specs.declared.shape.ShapeItem.{ShapeItem}
use Rattle.rs_ast.specs.declared.shape.ShapeItem.TheVariants as shape_items
use Rattle.rs_bind_query.specs.Binding.{shape_item, items_shown, shape_of}
use Rattle.rs_scope.specs.Predicates.{bound_clauses}
use Rattle.rs_bind_query.specs.Denials.{all_differ, item_tests, items_tests, key_tests, names_tests, grouping_test, keys_tests, select_tests}
use Rattle.rs_scope.specs.Denials.{Test, test, first_denial, column_tests, clauses_tests}
use Rattle.rs_scope.specs.Scope.{as_u16, alias_of, aliases_of, columns_as, scope_column, query_scope, named_count, column_index_of, column_kind}
use Rattle.rs_scope.specs.declared.heading.Heading.{Heading}
use Rattle.rs_scope.specs.declared.scope.ScopeColumn.{ScopeColumn}
use Rattle.rs_bind.proofs.OverScope.{kinds_in, kind_known, column_index_kind}
use Rattle.rs_bind.proofs.OverTests.{both_pass}
use Rattle.rs_eval.specs.Clauses.{holds}
use Rattle.rs_join.specs.Joined.{cross_product, joined, joined_within, max_joined}
use Rattle.rs_answer.specs.Answer.{answer_of}
use Rattle.rs_answer.specs.Kinds.{HasKinds, item_kind, AreKindsOf}
use Rattle.rs_answer.proofs.Typed.{answers_have_kinds}
use Rattle.rs_mean.specs.declared.table.Table.{Table}
use Rattle.rs_mean.specs.Database.{Database, table_named}
use Rattle.law_mean.specs.Laws.{EachTable, IsTyped, kind_shown, kinds_shown}
use Rattle.rs_mean.specs.RowStatements.{rows_of, rows_in, heading_in}
use Rattle.rs_join.specs.Selected.{answer_from, selected}
use Rattle.rs_mean.specs.TableStatements.{columns_of}
use Rattle.law_mean.proofs.LawKept.{each_named}
use Rattle.law_mean.proofs.LawKinds.{kinds_as, the_known}
use Rattle.law_mean.proofs.LawTests.{passed}

-- the kinds of the columns
abbrev kinds_of : List ColDef → List Kind
kinds_of columns = map (λ (column : ColDef). column.kind) columns

---- the cross product

module _ (prefix back : List Kind) where
  -- a row of these kinds before rows of those
  before_each : (row : List Value) (others : List (List Value)) → HasKinds prefix row → All (HasKinds back) others
      → All (HasKinds (prefix ++ back)) (map (λ (other : List Value). row ++ other) others)
  before_each row [] here typed = All-nil (HasKinds (prefix ++ back))
  before_each row (other ∷ others) here typed =
      All-cons (HasKinds (prefix ++ back)) (row ++ other) (map (λ (more : List Value). row ++ more) others)
      (map-append kind_of row other ∙ ap₂ (λ (ones more : List Kind). ones ++ more) here (All-head (HasKinds back) other others typed))
      (before_each row others here (All-tail (HasKinds back) other others typed))

  each_before : (rows others : List (List Value)) → All (HasKinds prefix) rows → All (HasKinds back) others
      → All (HasKinds (prefix ++ back)) (flat_map (λ (row : List Value). map (λ (other : List Value). row ++ other) others) rows)
  each_before [] others typed others_typed = All-nil (HasKinds (prefix ++ back))
  each_before (row ∷ rows) others typed others_typed =
      All-append (HasKinds (prefix ++ back)) (map (λ (other : List Value). row ++ other) others) (flat_map (λ (first : List Value). map (λ (other : List Value). first ++ other) others) rows)
      (before_each row others (All-head (HasKinds prefix) row rows typed) others_typed)
      (each_before rows others (All-tail (HasKinds prefix) row rows typed) others_typed)

found_rows : (found : Option Table) → IfSome found IsTyped → All (HasKinds (kinds_of (columns_of found))) (rows_of found)
found_rows None typed = All-nil (HasKinds [])
found_rows (Some table) typed = typed.kinds

found_few : (found : Option Table) → IfSome found IsTyped → length (columns_of found) ≤ 16
found_few None typed = omega arith
found_few (Some table) typed = typed.few

module _ (db : Database) (each : EachTable IsTyped db) (name : TableRef → Swn) where
  -- the columns that a query of these tables may name
  abbrev scope_of : List TableRef → List ScopeColumn
  scope_of refs = query_scope refs (map (heading_in db) (map name refs))

  cross_product_typed : (refs : List TableRef) → All (HasKinds (kinds_in (scope_of refs))) (cross_product (map (rows_in db) (map name refs)))
  cross_product_typed [] = All-cons (HasKinds []) [] [] refl (All-nil (HasKinds []))
  cross_product_typed (ref ∷ refs) =
      let found : Option Table = table_named (name ref) db in
      let alias : List ℕ = alias_of ref (heading_in db (name ref)) in
      let first : List ScopeColumn = columns_as alias (columns_of found) in
      let rest : List ScopeColumn = scope_of refs in
      let separated : kinds_in (first ++ rest) ≡ kinds_of (columns_of found) ++ kinds_in rest
      = map-append (λ (column : ScopeColumn). column.kind) first rest ∙ ap (λ (ones : List Kind). ones ++ kinds_in rest) (kinds_as alias (columns_of found)) in
      subst (λ (known : List Kind). All (HasKinds known) (cross_product (map (rows_in db) (map name (ref ∷ refs))))) (sym separated)
      (each_before (kinds_of (columns_of found)) (kinds_in rest) (rows_of found) (cross_product (map (rows_in db) (map name refs)))
      (found_rows found (each_named IsTyped db each (name ref))) (cross_product_typed refs))

  columns_few : (refs : List TableRef) → length (scope_of refs) ≤ length refs * 16
  columns_few [] = omega arith
  columns_few (ref ∷ refs) =
      let found : Option Table = table_named (name ref) db in
      let alias : List ℕ = alias_of ref (heading_in db (name ref)) in
      let first : length (columns_of found) ≤ 16 = found_few found (each_named IsTyped db each (name ref)) in
      let rest = columns_few refs in
      let together = length-append (columns_as alias (columns_of found)) (scope_of refs) in
      let mapped = length-map (columns_of found) (scope_column alias) in
      omega arith

-- ---- the kinds of items

module _ (columns : List Kind) where
  -- an item that is the column of an index
  abbrev column_at : ℕ → ShapeItem
  column_at at_index = shape_items.Col (as_u16 at_index)

  -- columns from an index on are shown with their kinds
  range_kinds : (a : ℕ) (known : List Kind) → a + length known ≤ 96 → ((i : ℕ) → slice_get columns (a + i) ≡ slice_get known i)
      → AreKindsOf (map (item_kind columns) (map column_at (range_with_len a (length known)))) known
  range_kinds a [] few at = refl
  range_kinds a (kind ∷ known) few at =
      let at_index : as_u16 a ≡ a + 0 = omega arith in
      let next : (i : ℕ) → slice_get columns (a + 1 + i) ≡ slice_get known i
      = λ i. (let same : a + 1 + i ≡ a + suc i = omega arith in ap (slice_get columns) same ∙ at (suc i)) in
      ap₂ (λ (one : Option Kind) (others : List (Option Kind)). one ∷ others) (ap (slice_get columns) at_index ∙ at 0) (range_kinds (a + 1) known (omega arith) next)

module _ (scope : List ScopeColumn) (small : length scope ≤ 96) where
  -- these are the kinds of what is shown, and of its items
  abbrev Show : Option (List Item) → List Kind → Type 0
  Show shown known = AreKindsOf (kinds_shown scope shown) known × AreKindsOf (map (item_kind (kinds_in scope)) (items_shown scope shown)) known

  abbrev ShowsOne : Item → Kind → Type 0
  ShowsOne item kind = (kind_shown scope item ≡ Some kind) × (item_kind (kinds_in scope) (shape_item scope item) ≡ Some kind)

  column_shows : (written : ColRef) → first_denial (column_tests scope written) ≡ None
      → (kind : Kind) × ((column_kind scope written ≡ Some kind) × (slice_get (kinds_in scope) (column_index_of scope written) ≡ Some kind))
  column_shows written passes =
      let named = (passed (test (named_count scope written == 0) denials.NoColumn) (test (nat_lt 1 (named_count scope written)) denials.TwoColumns ∷ []) passes).0 in
      let known = the_known (column_kind scope written) (kind_known scope small written named) in
      (known.0, (known.1, column_index_kind scope small written ∙ known.1))

  item_shows : (item : Item) → first_denial (item_tests scope item) ≡ None → (kind : Kind) × ShowsOne item kind
  item_shows (items.Col written) passes = column_shows written passes
  item_shows items.Count passes = (kinds.Int, (refl, refl))
  item_shows (items.Sum written) passes = (kinds.Int, (refl, refl))
  item_shows (items.Min written) passes = column_shows written passes
  item_shows (items.Max written) passes = column_shows written passes

  listed_show : (listed : List Item) → first_denial (flat_map (item_tests scope) listed) ≡ None → (known : List Kind) × Show (Some listed) known
  listed_show [] passes = ([], (refl, refl))
  listed_show (item ∷ listed) passes =
      let parts = both_pass (item_tests scope item) (flat_map (item_tests scope) listed) passes in
      let first = item_shows item parts.0 in
      let rest = listed_show listed parts.1 in
      let join : Option Kind → List (Option Kind) → List (Option Kind) = λ one others. one ∷ others in
      (first.0 ∷ rest.0, (ap₂ join first.1.0 rest.1.0, ap₂ join first.1.1 rest.1.1))

  all_shown : (given : List ScopeColumn) → AreKindsOf (map (λ (column : ScopeColumn). Some column.kind) given) (kinds_in given)
  all_shown [] = refl
  all_shown (column ∷ given) = ap (λ (others : List (Option Kind)). Some column.kind ∷ others) (all_shown given)

  every_shows : Show None (kinds_in scope)
  every_shows =
      let mapped : length (kinds_in scope) ≡ length scope = length-map scope (λ (column : ScopeColumn). column.kind) in
      let range : AreKindsOf (map (item_kind (kinds_in scope)) (map (column_at (kinds_in scope)) (range_with_len 0 (length (kinds_in scope))))) (kinds_in scope)
      = range_kinds (kinds_in scope) 0 (kinds_in scope) (omega arith) (λ i. (let same : 0 + i ≡ i = omega arith in ap (slice_get (kinds_in scope)) same)) in
      (all_shown scope, ap (λ (n : ℕ). map (item_kind (kinds_in scope)) (map (column_at (kinds_in scope)) (range_with_len 0 n))) (sym mapped) ∙ range)

  -- what a query shows that isn't denied has a kind, each
  shown_show : (shown : Option (List Item)) → first_denial (items_tests scope shown) ≡ None → (known : List Kind) × Show shown known
  shown_show None passes = (kinds_in scope, every_shows)
  shown_show (Some listed) passes = listed_show listed passes

-- the tests of the items, of those of a query
items_pass : (query : Select) (headings : List Heading) → first_denial (select_tests query headings []) ≡ None
    → first_denial (items_tests (query_scope query.from headings) query.items) ≡ None
items_pass query headings passes =
    let scope : List ScopeColumn = query_scope query.from headings in
    let apart : Test = test (not (all_differ (aliases_of query.from headings))) denials.TwoColumns in
    let named = both_pass (apart ∷ names_tests scope [] query) (grouping_test scope query ∷ keys_tests scope query) passes in
    let names = passed apart (names_tests scope [] query) named.0 in
    let shown : List Test = items_tests scope query.items in
    let clauses : List Test = clauses_tests scope [] query.clauses in
    let group : List Test = flat_map (column_tests scope) query.group in
    let order : List Test = flat_map (λ (key : Key). key_tests scope key.by) query.order in
    let before_order = both_pass (shown ++ clauses ++ group) order names.1 in
    let before_group = both_pass (shown ++ clauses) group before_order.0 in
    (both_pass shown clauses before_group.0).0

-- ---- the answer

-- the joined rows of a query that is answered
answered : (shape : Shape) (found : Result (List (List Value)) Denial) (rows : List (List Value)) → answer_from shape found ≡ Ok rows
    → (all : List (List Value)) × (found ≡ Ok all) × (answer_of shape all ≡ Ok rows)
answered shape (Ok all) rows e = (all, refl, e)
answered shape (Err cause) rows e = absurd cc

within_so : (P : List Value → Type 0) (found all : List (List Value)) (many : Bool) → All P found → cond {A = Result (List (List Value)) Denial} many (Err denials.TooManyRows) (Ok found) ≡ Ok all → All P all
within_so P found all true each e = absurd cc
within_so P found all false each e = let is : found ≡ all = cc in subst (All P) is each

-- joined rows are as each row of the cross product is
joined_so : (P : List Value → Type 0) (clauses : List (List BoundCmp)) (tables : List (List (List Value))) (all : List (List Value)) → All P (cross_product tables)
    → joined_within clauses tables ≡ Ok all → All P all
unfolding joined joined_within
joined_so P clauses tables all each e =
    within_so P (joined clauses tables) all (nat_lt max_joined (length (joined clauses tables))) (All-filter (holds clauses) P (cross_product tables) each) e

module _ (db : Database) (each : EachTable IsTyped db) (name : TableRef → Swn) (query : Select) (few : length query.from ≤ 6) where
  abbrev columns : List ScopeColumn
  columns = scope_of db each name query.from

  -- an answered query has rows with a value for each item, of its kind
  pub rows_shown : (rows : List (List Value)) → first_denial (select_tests query (map (heading_in db) (map name query.from)) []) ≡ None
      → selected (bound_clauses columns [] query.clauses) (shape_of columns query) (map (rows_in db) (map name query.from)) ≡ Ok rows
      → (known : List Kind) × AreKindsOf (kinds_shown columns query.items) known × All (HasKinds known) rows
  rows_shown rows passes e =
      let tables : List (List (List Value)) = map (rows_in db) (map name query.from) in
      let clauses : List (List BoundCmp) = bound_clauses columns [] query.clauses in
      let shape : Shape = shape_of columns query in
      let many = columns_few db each name query.from in
      let small : length columns ≤ 96 = omega arith in
      let shown = shown_show columns small query.items (items_pass query (map (heading_in db) (map name query.from)) passes) in
      let found = answered shape (joined_within clauses tables) rows e in
      let typed = joined_so (HasKinds (kinds_in columns)) clauses tables found.0 (cross_product_typed db each name query.from) found.1 in
      (shown.0, shown.1.0, answers_have_kinds shape (kinds_in columns) shown.0 found.0 rows shown.1.1 typed found.2)
