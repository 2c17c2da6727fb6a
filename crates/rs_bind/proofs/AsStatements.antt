-- A statement that is bound, and not denied, is bound as it is written.
use Rattle.std.proofs.Common.{◌≡◌, ℕ, ◌≤◌, true, not, List, [], ◌∷◌, map, length, Option, Some, None, Ok, refl, subst, arith}
use Rattle.std.specs.Prelude.{◌&&◌, nat_le, All}
use Rattle.std.proofs.lemmas.Bool.{and_parts, leb-true}
use Rattle.std.proofs.lemmas.List.{length-map}
use Rattle.std.proofs.lemmas.List.Elements.{All-head}
use Rattle.rs_base.specs.declared.name.NameText.{NameText}
use Rattle.rs_base.specs.declared.reply.Denial.TheVariants as denials
use Rattle.rs_ast.specs.Limits.{up_to, one_to, clauses_keep_limits, items_keep_limits, DmlKeepsLimits}
use Rattle.rs_ast.specs.declared.change.Set.{Set}
use Rattle.rs_ast.specs.declared.change.Term.{Term}
use Rattle.rs_ast.specs.declared.clause.Clause.{Clause}
use Rattle.rs_ast.specs.declared.entry.Entry.{Entry}
use Rattle.rs_ast.specs.declared.select.Item.{Item}
use Rattle.rs_ast.specs.declared.select.Select.{Select}
use Rattle.rs_ast.specs.declared.stmt.Dml.{Dml}
use Rattle.rs_ast.specs.declared.stmt.Dml.TheVariants as dmls
use Rattle.rs_plan.specs.declared.bound.Bound.{Bound}
use Rattle.rs_plan.specs.declared.bound.Bound.TheVariants as bounds
use Rattle.rs_plan.specs.Over.{IsNarrow}
use Rattle.rs_scope.specs.declared.heading.Heading.{Heading}
use Rattle.rs_scope.specs.declared.scope.Param.{Param}
use Rattle.rs_scope.specs.declared.scope.ScopeColumn.{ScopeColumn}
use Rattle.rs_scope.specs.Denials.{test, first_denial, clauses_tests}
use Rattle.rs_scope.specs.Predicates.{bound_clauses}
use Rattle.rs_scope.specs.Scope.{aliases_of, query_scope, scope_column, table_scope}
use Rattle.rs_bind_query.specs.Binding.{bound_select, select_bound}
use Rattle.rs_bind_query.specs.Denials.{all_differ, names_tests, grouping_test, item_count, keys_tests, select_tests}
use Rattle.rs_bind_change.specs.Binding.{bound_rows, bound_set, insert_bound, update_bound, delete_bound}
use Rattle.rs_bind_change.specs.Denials.{insert_tests, sets_tests, update_tests, delete_tests}
use Rattle.rs_bind.specs.AsWritten.{IsBoundAs}
use Rattle.rs_bind.specs.Binding.{bound_of}
use Rattle.rs_bind.specs.Entries.{defined, heading_of, headings_of, params_of, table_count}
use Rattle.rs_bind.specs.Laws.{BoundIsAsWritten}
use Rattle.rs_bind.proofs.AsChanges.{rows_as, sets_as}
use Rattle.rs_bind.proofs.AsClauses.{AreNamed, params_are_named, clauses_as}
use Rattle.rs_bind.proofs.AsShape.{shape_as}
use Rattle.rs_bind.proofs.Over.{not_denied, named_clauses}
use Rattle.rs_bind.proofs.OverTests.{first_passes, both_pass}
use Rattle.rs_bind.proofs.Places.{columns_are_few}

-- ---- SELECT

-- at most 96 items
items_are_few : (scope : List ScopeColumn) (shown : Option (List Item)) → length scope ≤ 96 → items_keep_limits shown ≡ true → item_count scope shown ≤ 96
items_are_few scope None few keeps = few
items_are_few scope (Some shown) few keeps =
    let most = leb-true (length shown) 16 (and_parts (nat_le 1 (length shown)) (up_to 16 shown) keeps).1 in
    omega arith

items_kept : (select : Select) → DmlKeepsLimits (dmls.Select select) → items_keep_limits select.items ≡ true
items_kept select limits =
    let tables = items_keep_limits select.items && one_to 6 select.from in
    let clauses = tables && clauses_keep_limits select.clauses in
    let group = clauses && up_to 16 select.group in
    let kept = (and_parts tables (clauses_keep_limits select.clauses) (and_parts clauses (up_to 16 select.group) (and_parts group (up_to 16 select.order) limits).0).0).0 in
    (and_parts (items_keep_limits select.items) (one_to 6 select.from) kept).0

module _ (names : List (List ℕ)) (params : List Param) (named : AreNamed names params) where
  query_as : (select : Select) (headings : List Heading) → length (query_scope select.from headings) ≤ 96 → items_keep_limits select.items ≡ true
      → first_denial (select_tests select headings params) ≡ None → IsBoundAs (dmls.Select select) headings names (bound_select select headings params)
  query_as select headings few keeps passes =
      let scope = query_scope select.from headings in
      let apart = test (not (all_differ (aliases_of select.from headings))) denials.TwoColumns in
      let rest = grouping_test scope select ∷ keys_tests scope select in
      let parts = both_pass (apart ∷ names_tests scope params select) rest passes in
      let names_pass = (first_passes apart (names_tests scope params select) parts.0).1 in
      record {
        tables_are = refl;
        aliases_are = refl;
        clauses_are = clauses_as scope few names params named select.clauses (named_clauses scope params select names_pass);
        shape_is = shape_as scope few select (items_are_few scope select.items few keeps) params names_pass parts.1;
      }

  select_as : (select : Select) (headings : List Heading) (bound : Bound) → length (query_scope select.from headings) ≤ 96 → items_keep_limits select.items ≡ true
      → select_bound select headings params ≡ Ok bound → IsBoundAs (dmls.Select select) headings names bound
  unfolding select_bound
  select_as select headings bound few keeps e =
      let parts = not_denied (first_denial (select_tests select headings params)) (bound_select select headings params) bound e in
      subst (IsBoundAs (dmls.Select select) headings names) parts.1 (query_as select headings few keeps parts.0)

  -- ---- changes of one table

  module _ (heading : Heading) (table : NameText) (small : length (table_scope heading) ≤ 16) where
    abbrev scope : List ScopeColumn
    scope = table_scope heading

    few : length scope ≤ 96
    few = omega arith

    insert_as : (rows : List (List Term)) (bound : Bound) → insert_bound rows heading params ≡ Ok bound → IsBoundAs (dmls.Insert table rows) (heading ∷ []) names bound
    unfolding insert_bound
    insert_as rows bound e =
        let parts = not_denied (first_denial (insert_tests rows scope params)) (bounds.Insert heading.name (bound_rows scope params rows)) bound e in
        subst (IsBoundAs (dmls.Insert table rows) (heading ∷ []) names) parts.1 (record { table_is = refl; rows_are = rows_as scope small names params named rows parts.0 })

    update_as : (sets : List Set) (clauses : List Clause) (bound : Bound) → update_bound sets clauses heading params ≡ Ok bound
        → IsBoundAs (dmls.Update table sets clauses) (heading ∷ []) names bound
    unfolding update_bound
    update_as sets clauses bound e =
        let made = bounds.Update heading.name (map (bound_set scope params) sets) (bound_clauses scope params clauses) in
        let parts = not_denied (first_denial (update_tests sets clauses scope params)) made bound e in
        let both = both_pass (sets_tests scope params [] sets) (clauses_tests scope params clauses) parts.0 in
        subst (IsBoundAs (dmls.Update table sets clauses) (heading ∷ []) names) parts.1
        (record {
          table_is = refl;
          sets_are = sets_as scope small names params named [] sets both.0;
          clauses_are = clauses_as scope few names params named clauses both.1;
        })

    delete_as : (clauses : List Clause) (bound : Bound) → delete_bound clauses heading params ≡ Ok bound → IsBoundAs (dmls.Delete table clauses) (heading ∷ []) names bound
    unfolding delete_bound
    delete_as clauses bound e =
        let parts = not_denied (first_denial (delete_tests clauses scope params)) (bounds.Delete heading.name (bound_clauses scope params clauses)) bound e in
        subst (IsBoundAs (dmls.Delete table clauses) (heading ∷ []) names) parts.1
        (record { table_is = refl; clauses_are = clauses_as scope few names params named clauses parts.0 })

-- ---- statements

scope_is_small : (entry : Entry) (entries : List Entry) → All IsNarrow (entry ∷ entries) → length (table_scope (heading_of entry)) ≤ 16
scope_is_small entry entries narrow =
    let first : length entry.columns ≤ 16 = All-head IsNarrow entry entries narrow in
    let columns = length-map entry.columns defined in
    let mapped = length-map (map defined entry.columns) (scope_column entry.name.object) in
    omega arith

pub bound_is_as_written : BoundIsAsWritten
bound_is_as_written stmt entries names given bound limits narrow long few are e = go stmt entries limits narrow long e
  where
    params : List Param
    params = params_of names given

    named : AreNamed names params
    named = params_are_named names given few are

    go : (stmt : Dml) (entries : List Entry) → DmlKeepsLimits stmt → All IsNarrow entries → length entries ≡ table_count stmt
        → bound_of stmt (headings_of entries) params ≡ Some (Ok bound) → IsBoundAs stmt (headings_of entries) names bound
    go (dmls.Select select) entries limits narrow long e =
        select_as names params named select (headings_of entries) bound (columns_are_few (dmls.Select select) entries limits narrow long) (items_kept select limits) cc
    go (dmls.Insert name rows) [] limits narrow long e = absurd cc
    go (dmls.Insert name rows) (entry ∷ []) limits narrow long e = insert_as names params named (heading_of entry) name (scope_is_small entry [] narrow) rows bound cc
    go (dmls.Insert name rows) (entry ∷ other ∷ entries) limits narrow long e = absurd cc
    go (dmls.Update name sets clauses) [] limits narrow long e = absurd cc
    go (dmls.Update name sets clauses) (entry ∷ []) limits narrow long e =
        update_as names params named (heading_of entry) name (scope_is_small entry [] narrow) sets clauses bound cc
    go (dmls.Update name sets clauses) (entry ∷ other ∷ entries) limits narrow long e = absurd cc
    go (dmls.Delete name clauses) [] limits narrow long e = absurd cc
    go (dmls.Delete name clauses) (entry ∷ []) limits narrow long e = delete_as names params named (heading_of entry) name (scope_is_small entry [] narrow) clauses bound cc
    go (dmls.Delete name clauses) (entry ∷ other ∷ entries) limits narrow long e = absurd cc
