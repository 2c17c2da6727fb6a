-- A statement that is bound, and not denied, is over its entries.
use Rattle.std.proofs.Common.{◌≡◌, ℕ, ◌≤◌, List, [], ◌∷◌, ◌++◌, map, length, Option, Some, None, Ok, IsTrue, not, refl, ap, ap₂, subst, arith}
use Rattle.std.specs.Prelude.{◌&&◌, nat_le, flat_map, All}
use Rattle.std.specs.List.{list_all}
use Rattle.std.proofs.lemmas.Bool.{and_from, and_parts, leb-true}
use Rattle.std.proofs.lemmas.List.{length-map}
use Rattle.std.proofs.lemmas.List.Elements.{All-head, All-tail}
use Rattle.rs_base.specs.declared.name.Swn.{Swn}
use Rattle.rs_base.specs.declared.reply.Denial.{Denial}
use Rattle.rs_base.specs.declared.reply.Denial.TheVariants as denials
use Rattle.rs_base.specs.declared.value.Kind.{Kind}
use Rattle.rs_ast.specs.Limits.{up_to, one_to, clauses_keep_limits, items_keep_limits, DmlKeepsLimits}
use Rattle.rs_ast.specs.declared.change.Set.{Set}
use Rattle.rs_ast.specs.declared.change.Term.{Term}
use Rattle.rs_ast.specs.declared.clause.Clause.{Clause}
use Rattle.rs_ast.specs.declared.entry.Entry.{Entry}
use Rattle.rs_ast.specs.declared.select.Key.{Key}
use Rattle.rs_ast.specs.declared.select.Select.{Select}
use Rattle.rs_ast.specs.declared.select.TableRef.{TableRef}
use Rattle.rs_ast.specs.declared.stmt.Dml.{Dml}
use Rattle.rs_ast.specs.declared.stmt.Dml.TheVariants as dmls
use Rattle.rs_plan.specs.declared.bound.Bound.{Bound}
use Rattle.rs_plan.specs.declared.bound.Bound.TheVariants as bounds
use Rattle.rs_plan.specs.Over.{kinds_of, clauses_fit, set_fits, row_fits, AreEntriesOf, IsNarrow, IsOver, IsShapeOver, IsInsertOver, IsUpdateOver, IsDeleteOver}
use Rattle.rs_plan.specs.Params.{HasParamsBelow}
use Rattle.rs_scope.specs.declared.heading.Heading.{Heading}
use Rattle.rs_scope.specs.declared.scope.Param.{Param}
use Rattle.rs_scope.specs.declared.scope.ScopeColumn.{ScopeColumn}
use Rattle.rs_bind_query.specs.Binding.{bound_select, shape_of, select_bound}
use Rattle.rs_bind_change.specs.Binding.{bound_rows, bound_set, insert_bound, update_bound, delete_bound}
use Rattle.rs_plan.specs.Outcome.{unless_denied}
use Rattle.rs_scope.specs.Predicates.{bound_clauses}
use Rattle.rs_bind_query.specs.Denials.{all_differ, items_tests, key_tests, names_tests, grouping_test, keys_tests, select_tests}
use Rattle.rs_bind_change.specs.Denials.{insert_tests, sets_tests, update_tests, delete_tests}
use Rattle.rs_scope.specs.Denials.{test, column_tests, first_denial, clauses_tests}
use Rattle.rs_bind.specs.Binding.{bound_of}
use Rattle.rs_bind.specs.Entries.{defined, heading_of, headings_of, params_of, kinds_given, table_count}
use Rattle.rs_bind.specs.Laws.{BoundIsOver}
use Rattle.rs_scope.specs.Scope.{as_u16, aliases_of, query_scope, scope_column, table_scope}
use Rattle.rs_bind.proofs.OverChanges.{rows_over, rows_below, sets_over, sets_below}
use Rattle.rs_bind.proofs.OverClauses.{clauses_over, clauses_below}
use Rattle.rs_bind.proofs.OverParams.{Suits, suits, as_many_params}
use Rattle.rs_bind.proofs.OverScope.{kinds_in, table_kinds, query_kinds, kinds_are_few}
use Rattle.rs_bind.proofs.OverShape.{shape_over}
use Rattle.rs_bind.proofs.OverTests.{first_passes, both_pass}

-- ---- the tables

names_are : (entries : List Entry) → map (λ (heading : Heading). heading.name) (headings_of entries) ≡ map (λ (entry : Entry). entry.name) entries
names_are [] = refl
names_are (entry ∷ entries) = ap (λ (names : List Swn). entry.name ∷ names) (names_are entries)

length-aliases : (refs : List TableRef) (entries : List Entry) → length entries ≡ length refs → length (aliases_of refs (headings_of entries)) ≡ length entries
length-aliases [] [] long = refl
length-aliases [] (entry ∷ entries) long = absurd (omega arith)
length-aliases (ref ∷ refs) [] long = absurd (omega arith)
length-aliases (ref ∷ refs) (entry ∷ entries) long = let rest = length-aliases refs entries (omega arith) in omega arith

widths_are : (entries : List Entry) → All IsNarrow entries
    → map (λ (heading : Heading). as_u16 (length heading.columns)) (headings_of entries) ≡ map (λ (entry : Entry). length entry.columns) entries
widths_are [] narrow = refl
widths_are (entry ∷ entries) narrow =
    let first : length entry.columns ≤ 16 = All-head IsNarrow entry entries narrow in
    let mapped = length-map entry.columns defined in
    let width : as_u16 (length (map defined entry.columns)) ≡ length entry.columns = omega arith in
    ap₂ (λ (one : ℕ) (others : List ℕ). one ∷ others) width (widths_are entries (All-tail IsNarrow entry entries narrow))

-- what isn't denied is bound to this
pub not_denied : (denial : Option Denial) (one bound : Bound) → unless_denied denial one ≡ Ok bound → (denial ≡ None) × (one ≡ bound)
not_denied None one bound e = (refl, cc)
not_denied (Some cause) one bound e = absurd cc

-- ---- SELECT

pub named_clauses : (scope : List ScopeColumn) (params : List Param) (select : Select) → first_denial (names_tests scope params select) ≡ None
    → first_denial (clauses_tests scope params select.clauses) ≡ None
named_clauses scope params select names =
    let shown = items_tests scope select.items in
    let clauses = clauses_tests scope params select.clauses in
    let group = flat_map (column_tests scope) select.group in
    let order = flat_map (λ (key : Key). key_tests scope key.by) select.order in
    (both_pass shown clauses (both_pass (shown ++ clauses) group (both_pass (shown ++ clauses ++ group) order names).0).0).1

module _ (names : List Swn) (entries : List Entry) (are : AreEntriesOf names entries) (params : List Param) (given : Option (List Kind)) (suits : Suits given params) where
  columns_are_few : (scope : List ScopeColumn) → kinds_in scope ≡ kinds_of entries → length scope ≤ 96
  columns_are_few scope kinds =
      let few = are.few in
      let each = kinds_are_few entries are.narrow in
      let long = ap length kinds in
      let mapped = length-map scope (λ (column : ScopeColumn). column.kind) in
      omega arith

  query_over : (select : Select) → length entries ≡ length select.from → first_denial (select_tests select (headings_of entries) params) ≡ None
      → IsOver (bound_select select (headings_of entries) params) entries given × HasParamsBelow (length params) (bound_select select (headings_of entries) params)
  query_over select long passes =
      let headings = headings_of entries in
      let scope = query_scope select.from headings in
      let kinds = query_kinds select.from entries long in
      let few = columns_are_few scope kinds in
      let apart = test (not (all_differ (aliases_of select.from headings))) denials.TwoColumns in
      let rest = grouping_test scope select ∷ keys_tests scope select in
      let parts = both_pass (apart ∷ names_tests scope params select) rest passes in
      let named = first_passes apart (names_tests scope params select) parts.0 in
      let passed = named_clauses scope params select named.1 in (
        record {
          tables = record { in_order = names_are entries; few = are.few; narrow = are.narrow };
          named = length-aliases select.from entries long;
          wide = widths_are entries are.narrow;
          clauses_are =
              subst (λ (columns : List Kind). IsTrue (clauses_fit columns given (bound_clauses scope params select.clauses))) kinds
              (clauses_over scope params given suits few select.clauses passed);
          shape_is = subst (λ (columns : List Kind). IsShapeOver columns (shape_of scope select)) kinds (shape_over scope few params select named.1 parts.1);
        },
        clauses_below scope params select.clauses passed,
      )

  select_over : (select : Select) (bound : Bound) → length entries ≡ length select.from → select_bound select (headings_of entries) params ≡ Ok bound
      → IsOver bound entries given × HasParamsBelow (length params) bound
  unfolding select_bound
  select_over select bound long e =
      let parts = not_denied (first_denial (select_tests select (headings_of entries) params)) (bound_select select (headings_of entries) params) bound e in
      subst (λ (one : Bound). IsOver one entries given × HasParamsBelow (length params) one) parts.1 (query_over select long parts.0)

-- ---- changes of one table

module _ (entry : Entry) (names : List Swn) (are : AreEntriesOf names (entry ∷ [])) (params : List Param) (given : Option (List Kind)) (suits : Suits given params) where
  abbrev heading : Heading
  heading = heading_of entry

  abbrev scope : List ScopeColumn
  scope = table_scope heading

  abbrev kinds : kinds_in scope ≡ kinds_of (entry ∷ [])
  kinds = table_kinds entry

  tables : AreEntriesOf (entry.name ∷ []) (entry ∷ [])
  tables = record { in_order = refl; few = are.few; narrow = are.narrow }

  scope_is_small : length scope ≤ 16
  scope_is_small =
      let first : length entry.columns ≤ 16 = All-head IsNarrow entry [] are.narrow in
      let columns = length-map entry.columns defined in
      let mapped = length-map (map defined entry.columns) (scope_column entry.name.object) in
      omega arith

  clauses_are_over : (clauses : List Clause) → first_denial (clauses_tests scope params clauses) ≡ None
      → IsTrue (clauses_fit (kinds_of (entry ∷ [])) given (bound_clauses scope params clauses))
  clauses_are_over clauses passes =
      let small = scope_is_small in
      subst (λ (columns : List Kind). IsTrue (clauses_fit columns given (bound_clauses scope params clauses))) kinds (clauses_over scope params given suits (omega arith) clauses passes)

  insert_over : (rows : List (List Term)) (bound : Bound) → insert_bound rows heading params ≡ Ok bound → IsOver bound (entry ∷ []) given × HasParamsBelow (length params) bound
  unfolding insert_bound
  insert_over rows bound e =
      let made = bounds.Insert entry.name (bound_rows scope params rows) in
      let parts = not_denied (first_denial (insert_tests rows scope params)) made bound e in
      let below : HasParamsBelow (length params) made = rows_below scope params rows parts.0 in
      let over : IsInsertOver entry.name (bound_rows scope params rows) (entry ∷ []) given
      = record {
        tables = tables;
        rows_are =
            subst (λ (columns : List Kind). IsTrue (list_all (row_fits columns given) (bound_rows scope params rows))) kinds (rows_over scope params given suits rows parts.0);
      } in
      subst (λ (one : Bound). IsOver one (entry ∷ []) given × HasParamsBelow (length params) one) parts.1 (over, below)

  update_over : (sets : List Set) (clauses : List Clause) (bound : Bound) → update_bound sets clauses heading params ≡ Ok bound → IsOver bound (entry ∷ []) given × HasParamsBelow (length params) bound
  unfolding update_bound
  update_over sets clauses bound e =
      let made = bounds.Update entry.name (map (bound_set scope params) sets) (bound_clauses scope params clauses) in
      let parts = not_denied (first_denial (update_tests sets clauses scope params)) made bound e in
      let both = both_pass (sets_tests scope params [] sets) (clauses_tests scope params clauses) parts.0 in
      let below : HasParamsBelow (length params) made = and_from _ _ (sets_below scope params [] sets both.0) (clauses_below scope params clauses both.1) in
      let over : IsUpdateOver entry.name (map (bound_set scope params) sets) (bound_clauses scope params clauses) (entry ∷ []) given
      = record {
        tables = tables;
        sets_are =
            subst (λ (columns : List Kind). IsTrue (list_all (set_fits columns given) (map (bound_set scope params) sets))) kinds
            (sets_over scope params given suits scope_is_small [] sets both.0);
        clauses_are = clauses_are_over clauses both.1;
      } in
      subst (λ (one : Bound). IsOver one (entry ∷ []) given × HasParamsBelow (length params) one) parts.1 (over, below)

  delete_over : (clauses : List Clause) (bound : Bound) → delete_bound clauses heading params ≡ Ok bound → IsOver bound (entry ∷ []) given × HasParamsBelow (length params) bound
  unfolding delete_bound
  delete_over clauses bound e =
      let made = bounds.Delete entry.name (bound_clauses scope params clauses) in
      let parts = not_denied (first_denial (delete_tests clauses scope params)) made bound e in
      let below : HasParamsBelow (length params) made = clauses_below scope params clauses parts.0 in
      let over : IsDeleteOver entry.name (bound_clauses scope params clauses) (entry ∷ []) given
      = record { tables = tables; clauses_are = clauses_are_over clauses parts.0 } in
      subst (λ (one : Bound). IsOver one (entry ∷ []) given × HasParamsBelow (length params) one) parts.1 (over, below)

-- ---- statements

-- at most 6 tables
pub tables_are_few : (stmt : Dml) → DmlKeepsLimits stmt → table_count stmt ≤ 6
tables_are_few (dmls.Select select) limits =
    let tables = items_keep_limits select.items && one_to 6 select.from in
    let clauses = tables && clauses_keep_limits select.clauses in
    let group = clauses && up_to 16 select.group in
    let kept = (and_parts tables (clauses_keep_limits select.clauses) (and_parts clauses (up_to 16 select.group) (and_parts group (up_to 16 select.order) limits).0).0).0 in
    let few = (and_parts (items_keep_limits select.items) (one_to 6 select.from) kept).1 in
    leb-true (length select.from) 6 (and_parts (nat_le 1 (length select.from)) (up_to 6 select.from) few).1
tables_are_few (dmls.Insert name rows) limits = omega arith
tables_are_few (dmls.Update name sets clauses) limits = omega arith
tables_are_few (dmls.Delete name clauses) limits = omega arith

pub bound_is_over : BoundIsOver
bound_is_over stmt entries names values bound limits narrow long few are_values e =
    let over = go stmt entries are long e in
    (over.0, subst (λ (count : ℕ). HasParamsBelow count bound) (as_many_params names values are_values) over.1)
  where
    params : List Param
    params = params_of names values

    suited : Suits (kinds_given values) params
    suited = suits names values few are_values

    are : AreEntriesOf (map (λ (entry : Entry). entry.name) entries) entries
    are = record { in_order = refl; few = let tables = tables_are_few stmt limits in omega arith; narrow = narrow }

    go : (stmt : Dml) (entries : List Entry) → AreEntriesOf (map (λ (entry : Entry). entry.name) entries) entries → length entries ≡ table_count stmt
        → bound_of stmt (headings_of entries) params ≡ Some (Ok bound) → IsOver bound entries (kinds_given values) × HasParamsBelow (length params) bound
    go (dmls.Select select) entries are long e =
        select_over (map (λ (entry : Entry). entry.name) entries) entries are params (kinds_given values) suited select bound long cc
    go (dmls.Insert name rows) [] are long e = absurd cc
    go (dmls.Insert name rows) (entry ∷ []) are long e = insert_over entry (entry.name ∷ []) are params (kinds_given values) suited rows bound cc
    go (dmls.Insert name rows) (entry ∷ other ∷ entries) are long e = absurd cc
    go (dmls.Update name sets clauses) [] are long e = absurd cc
    go (dmls.Update name sets clauses) (entry ∷ []) are long e = update_over entry (entry.name ∷ []) are params (kinds_given values) suited sets clauses bound cc
    go (dmls.Update name sets clauses) (entry ∷ other ∷ entries) are long e = absurd cc
    go (dmls.Delete name clauses) [] are long e = absurd cc
    go (dmls.Delete name clauses) (entry ∷ []) are long e = delete_over entry (entry.name ∷ []) are params (kinds_given values) suited clauses bound cc
    go (dmls.Delete name clauses) (entry ∷ other ∷ entries) are long e = absurd cc
