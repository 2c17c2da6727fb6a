-- Rows and assignments that are not denied are bound as they are written.
use Rattle.std.proofs.Common.{◌≡◌, ℕ, ◌≤◌, true, not, List, [], ◌∷◌, ◌++◌, map, length, Option, Some, None, refl, sym, subst, arith}
use Rattle.std.specs.Prelude.{◌==◌, bytes_eq, flat_map}
use Rattle.std.specs.Cmp.Lexicographic.{pointwise}
use Rattle.std.specs.List.{AllZip, list_any}
use Rattle.std.specs.Option.{option_map}
use Rattle.std.proofs.lemmas.Bool.{and_parts, not-false}
use Rattle.rs_base.specs.declared.reply.Denial.TheVariants as denials
use Rattle.rs_ast.specs.declared.bound.BoundTerm.{BoundTerm}
use Rattle.rs_ast.specs.declared.change.Arith.{Arith}
use Rattle.rs_ast.specs.declared.change.Set.{Set}
use Rattle.rs_ast.specs.declared.change.Term.{Term}
use Rattle.rs_ast.specs.declared.change.Term.TheVariants as terms
use Rattle.rs_scope.specs.declared.scope.Param.{Param}
use Rattle.rs_scope.specs.declared.scope.ScopeColumn.{ScopeColumn}
use Rattle.rs_scope.specs.Denials.{test, first_denial}
use Rattle.rs_scope.specs.Scope.{as_position, named_count, column_index_of, unqualified, column_kind}
use Rattle.rs_bind_change.specs.Binding.{bound_term, bound_set, bound_rows}
use Rattle.rs_bind_change.specs.Denials.{term_fits, row_fits, given_tests, row_tests, insert_tests, term_tests, more_tests, expr_fits, set_tests, sets_tests}
use Rattle.rs_bind.specs.AsWritten.{IsNamedAt, IsTermAs, AreRowsAs, IsMoreAs, IsSetAs}
use Rattle.rs_bind.proofs.AsClauses.{each_as, AreNamed}
use Rattle.rs_bind.proofs.OverScope.{column_index_within}
use Rattle.rs_bind.proofs.OverTests.{first_passes, both_pass}
use Rattle.rs_bind.proofs.Places.{named_at}

module _ (scope : List ScopeColumn) (small : length scope ≤ 16) (names : List (List ℕ)) (params : List Param) (named : AreNamed names params) where
  -- ---- inserted rows

  given_as : (term : Term) (column : ScopeColumn) → first_denial (given_tests params term) ≡ None → term_fits params term column ≡ true
      → IsTermAs scope names term (bound_term scope params term)
  given_as (terms.Col name) column passes fits = absurd cc
  given_as (terms.Lit value) column passes fits = refl
  given_as (terms.Param name) column passes fits = named name passes

  given_row_as : (row : List Term) (columns : List ScopeColumn) → first_denial (flat_map (given_tests params) row) ≡ None → pointwise (term_fits params) row columns ≡ true
      → AllZip (IsTermAs scope names) row (map (bound_term scope params) row)
  given_row_as [] columns passes fits = tt
  given_row_as (term ∷ row) [] passes fits = absurd cc
  given_row_as (term ∷ row) (column ∷ columns) passes fits =
      let parts = and_parts (term_fits params term column) (pointwise (term_fits params) row columns) fits in
      let both = both_pass (given_tests params term) (flat_map (given_tests params) row) passes in
      (given_as term column both.0 parts.0, given_row_as row columns both.1 parts.1)

  row_as : (row : List Term) → first_denial (row_tests scope params row) ≡ None → AllZip (IsTermAs scope names) row (map (bound_term scope params) row)
  row_as row passes =
      let first = first_passes (test (not (row_fits scope params row)) denials.WrongType) (flat_map (given_tests params) row) passes in
      given_row_as row scope first.1 (not-false (row_fits scope params row) first.0)

  pub rows_as : (rows : List (List Term)) → first_denial (insert_tests rows scope params) ≡ None → AreRowsAs scope names rows (bound_rows scope params rows)
  rows_as rows passes =
      each_as (map (bound_term scope params)) (λ (row : List Term) (bound : List BoundTerm). AllZip (IsTermAs scope names) row bound) (row_tests scope params) row_as rows passes

  -- ---- assignments

  few : length scope ≤ 96
  few = omega arith

  term_as : (term : Term) → first_denial (term_tests scope params term) ≡ None → IsTermAs scope names term (bound_term scope params term)
  term_as (terms.Col name) passes =
      named_at scope few (unqualified name) (first_passes (test (named_count scope (unqualified name) == 0) denials.NoColumn) [] passes).0
  term_as (terms.Lit value) passes = refl
  term_as (terms.Param name) passes = named name passes

  more_as : (more : Option (Arith × Term)) → first_denial (more_tests scope params more) ≡ None
      → IsMoreAs scope names more (option_map (λ more. (more.0, bound_term scope params more.1)) more)
  more_as None passes = tt
  more_as (Some more) passes = (refl, term_as more.1 passes)

  set_as : (before : List Set) (set : Set) → first_denial (set_tests scope params before set) ≡ None → IsSetAs scope names set (bound_set scope params set)
  set_as before set passes =
      let column = unqualified set.column in
      let terms = term_tests scope params set.expr.first ++ more_tests scope params set.expr.more in
      let fitting = test (not (expr_fits scope params (column_kind scope column) set.expr.first set.expr.more)) denials.WrongType in
      let there = test (named_count scope column == 0) denials.NoColumn in
      let once = test (list_any (λ (other : Set). bytes_eq other.column set.column) before) denials.TwoColumns in
      let prefix = both_pass (there ∷ once ∷ terms) (fitting ∷ []) passes in
      let first = first_passes there (once ∷ terms) prefix.0 in
      let second = first_passes once terms first.1 in
      let both = both_pass (term_tests scope params set.expr.first) (more_tests scope params set.expr.more) second.1 in
      let within = column_index_within scope column first.0 in
      let position : as_position (column_index_of scope column) ≡ column_index_of scope column = omega arith in
      record {
        column = subst (IsNamedAt scope column) (sym position) (named_at scope few column first.0);
        first = term_as set.expr.first both.0;
        more = more_as set.expr.more both.1;
      }

  pub sets_as : (before sets : List Set) → first_denial (sets_tests scope params before sets) ≡ None → AllZip (IsSetAs scope names) sets (map (bound_set scope params) sets)
  sets_as before [] passes = tt
  sets_as before (set ∷ sets) passes =
      let parts = both_pass (set_tests scope params before set) (sets_tests scope params (before ++ set ∷ []) sets) passes in
      (set_as before set parts.0, sets_as (before ++ set ∷ []) sets parts.1)
