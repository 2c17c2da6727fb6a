-- Rows and assignments that are not denied fit the columns.
use Rattle.std.proofs.Common.{◌≡◌, ℕ, ◌≤◌, Bool, true, false, not, ◌&&◌, List, [], ◌∷◌, ◌++◌, map, length, Option, Some, None, IsTrue, refl, ap, ◌∙◌, arith}
use Rattle.std.specs.Prelude.{◌==◌, bytes_eq, flat_map}
use Rattle.std.specs.Cmp.Lexicographic.{pointwise}
use Rattle.std.specs.List.{list_any, list_all, slice_get}
use Rattle.std.specs.Option.{option_map}
use Rattle.std.proofs.lemmas.Bool.{and_from, and_parts, not-false}
use Rattle.rs_base.specs.declared.reply.Denial.TheVariants as denials
use Rattle.rs_base.specs.declared.value.Kind.{Kind}
use Rattle.rs_base.specs.declared.value.Kind.TheVariants as kinds
use Rattle.rs_ast.specs.declared.change.Arith.{Arith}
use Rattle.rs_ast.specs.declared.change.Set.{Set}
use Rattle.rs_ast.specs.declared.change.Term.{Term}
use Rattle.rs_ast.specs.declared.change.Term.TheVariants as terms
use Rattle.rs_ast.specs.declared.bound.BoundTerm.{BoundTerm}
use Rattle.rs_ast.specs.Kinds.{kinds_fit, same_kind}
use Rattle.rs_plan.specs.Over as over
use Rattle.rs_plan.specs.Over.{more_fits, set_kind, set_fits, set_fits_kind, term_is_there}
use Rattle.rs_plan.specs.Params.{term_is_below, row_is_below, more_is_below, set_is_below}
use Rattle.rs_scope.specs.declared.scope.Param.{Param}
use Rattle.rs_scope.specs.declared.scope.ScopeColumn.{ScopeColumn}
use Rattle.rs_bind_change.specs.Binding.{bound_term, bound_set, bound_rows}
use Rattle.rs_bind_change.specs.Denials.{term_fits, row_fits, given_tests, row_tests, insert_tests, term_tests, term_kind, more_tests, expr_fits, set_tests, sets_tests}
use Rattle.rs_scope.specs.Denials.{test, first_denial}
use Rattle.rs_scope.specs.Scope.{as_position, named_count, column_index_of, unqualified, column_kind}
use Rattle.rs_bind.proofs.OverParams.{Suits, param_declared, param_below}
use Rattle.rs_bind.proofs.OverScope.{kinds_in, kind_known, column_index_kind, column_index_there, column_index_within}
use Rattle.rs_bind.proofs.OverTests.{first_passes, both_pass, each_passes}

---- inserted rows

module _ (scope : List ScopeColumn) (params : List Param) where
  given_below : (term : Term) → first_denial (given_tests params term) ≡ None → term_is_below (length params) (bound_term scope params term) ≡ true
  given_below (terms.Col name) passes = refl
  given_below (terms.Lit value) passes = refl
  given_below (terms.Param name) passes = param_below params name passes

  row_below : (row : List Term) → first_denial (row_tests scope params row) ≡ None → row_is_below (length params) (map (bound_term scope params) row) ≡ true
  row_below row passes =
      let first = first_passes (test (not (row_fits scope params row)) denials.WrongType) (flat_map (given_tests params) row) passes in
      each_passes (bound_term scope params) (term_is_below (length params)) (given_tests params) given_below row first.1

  -- each parameter is below their number
  pub rows_below : (rows : List (List Term)) → first_denial (insert_tests rows scope params) ≡ None
      → list_all (row_is_below (length params)) (bound_rows scope params rows) ≡ true
  rows_below rows passes = each_passes (map (bound_term scope params)) (row_is_below (length params)) (row_tests scope params) row_below rows passes

module _ (scope : List ScopeColumn) (params : List Param) (given : Option (List Kind)) (suits : Suits given params) where
  term_is_given : (term : Term) (column : ScopeColumn) → first_denial (given_tests params term) ≡ None → term_fits params term column ≡ true
      → over.is_given given (bound_term scope params term) ≡ true
  term_is_given (terms.Col name) column passes fits = absurd cc
  term_is_given (terms.Lit value) column passes fits = refl
  term_is_given (terms.Param name) column passes fits = suits.there name (param_declared params name passes)

  term_is_of_kind : (term : Term) (column : ScopeColumn) → first_denial (given_tests params term) ≡ None → term_fits params term column ≡ true
      → kinds_fit (Some column.kind) (over.term_kind (kinds_in scope) given (bound_term scope params term)) ≡ true
  term_is_of_kind (terms.Col name) column passes fits = absurd cc
  term_is_of_kind (terms.Lit value) column passes fits = fits
  term_is_of_kind (terms.Param name) column passes fits = suits.fits (Some column.kind) name (param_declared params name passes) fits

  row_is_given : (row : List Term) (columns : List ScopeColumn) → first_denial (flat_map (given_tests params) row) ≡ None → pointwise (term_fits params) row columns ≡ true
      → list_all (over.is_given given) (map (bound_term scope params) row) ≡ true
  row_is_given [] columns passes fits = refl
  row_is_given (term ∷ row) [] passes fits = absurd cc
  row_is_given (term ∷ row) (column ∷ columns) passes fits =
      let parts = and_parts (term_fits params term column) (pointwise (term_fits params) row columns) fits in
      let both = both_pass (given_tests params term) (flat_map (given_tests params) row) passes in
      and_from _ _ (term_is_given term column both.0 parts.0) (row_is_given row columns both.1 parts.1)

  abbrev is_of_kind : BoundTerm → Kind → Bool
  is_of_kind term kind = kinds_fit (Some kind) (over.term_kind (kinds_in scope) given term)

  row_is_of_kinds : (row : List Term) (columns : List ScopeColumn) → first_denial (flat_map (given_tests params) row) ≡ None → pointwise (term_fits params) row columns ≡ true
      → pointwise is_of_kind (map (bound_term scope params) row) (kinds_in columns) ≡ true
  row_is_of_kinds [] [] passes fits = refl
  row_is_of_kinds [] (column ∷ columns) passes fits = absurd cc
  row_is_of_kinds (term ∷ row) [] passes fits = absurd cc
  row_is_of_kinds (term ∷ row) (column ∷ columns) passes fits =
      let parts = and_parts (term_fits params term column) (pointwise (term_fits params) row columns) fits in
      let both = both_pass (given_tests params term) (flat_map (given_tests params) row) passes in
      and_from _ _ (term_is_of_kind term column both.0 parts.0) (row_is_of_kinds row columns both.1 parts.1)

  row_over : (row : List Term) → first_denial (row_tests scope params row) ≡ None → over.row_fits (kinds_in scope) given (map (bound_term scope params) row) ≡ true
  row_over row passes =
      let first = first_passes (test (not (row_fits scope params row)) denials.WrongType) (flat_map (given_tests params) row) passes in
      let fits = not-false (row_fits scope params row) first.0 in
      and_from _ _ (row_is_given row scope first.1 fits) (row_is_of_kinds row scope first.1 fits)

  pub rows_over : (rows : List (List Term)) → first_denial (insert_tests rows scope params) ≡ None
      → IsTrue (list_all (over.row_fits (kinds_in scope) given) (bound_rows scope params rows))
  rows_over rows passes = each_passes (map (bound_term scope params)) (over.row_fits (kinds_in scope) given) (row_tests scope params) row_over rows passes

---- assignments

own_kind : (kind : Kind) → same_kind kind kind ≡ true
own_kind kinds.Int = refl
own_kind kinds.Text = refl

integer : (kind : Kind) → same_kind kind kinds.Int ≡ true → kind ≡ kinds.Int
integer kinds.Int e = refl
integer kinds.Text e = absurd cc

-- each parameter is below their number
module _ (scope : List ScopeColumn) (params : List Param) where
  term_below : (term : Term) → first_denial (term_tests scope params term) ≡ None → term_is_below (length params) (bound_term scope params term) ≡ true
  term_below (terms.Col name) passes = refl
  term_below (terms.Lit value) passes = refl
  term_below (terms.Param name) passes = param_below params name passes

  more_below : (more : Option (Arith × Term)) → first_denial (more_tests scope params more) ≡ None
      → more_is_below (length params) (option_map (λ more. (more.0, bound_term scope params more.1)) more) ≡ true
  more_below None passes = refl
  more_below (Some more) passes = term_below more.1 passes

  set_below : (before : List Set) (set : Set) → first_denial (set_tests scope params before set) ≡ None → set_is_below (length params) (bound_set scope params set) ≡ true
  set_below before set passes =
      let terms = term_tests scope params set.expr.first ++ more_tests scope params set.expr.more in
      let fitting = test (not (expr_fits scope params (column_kind scope (unqualified set.column)) set.expr.first set.expr.more)) denials.WrongType in
      let there = test (named_count scope (unqualified set.column) == 0) denials.NoColumn in
      let once = test (list_any (λ (other : Set). bytes_eq other.column set.column) before) denials.TwoColumns in
      let prefix = both_pass (there ∷ once ∷ terms) (fitting ∷ []) passes in
      let first = first_passes there (once ∷ terms) prefix.0 in
      let second = first_passes once terms first.1 in
      let both = both_pass (term_tests scope params set.expr.first) (more_tests scope params set.expr.more) second.1 in
      and_from _ _ (term_below set.expr.first both.0) (more_below set.expr.more both.1)

  pub sets_below : (before sets : List Set) → first_denial (sets_tests scope params before sets) ≡ None
      → list_all (set_is_below (length params)) (map (bound_set scope params) sets) ≡ true
  sets_below before [] passes = refl
  sets_below before (set ∷ sets) passes =
      let parts = both_pass (set_tests scope params before set) (sets_tests scope params (before ++ set ∷ []) sets) passes in
      and_from _ _ (set_below before set parts.0) (sets_below (before ++ set ∷ []) sets parts.1)

module _ (scope : List ScopeColumn) (params : List Param) (given : Option (List Kind)) (suits : Suits given params) (small : length scope ≤ 16) where
  few : length scope ≤ 96
  few = omega arith

  term_there : (term : Term) → first_denial (term_tests scope params term) ≡ None → term_is_there (kinds_in scope) given (bound_term scope params term) ≡ true
  term_there (terms.Col name) passes =
      column_index_there scope (unqualified name) (first_passes (test (named_count scope (unqualified name) == 0) denials.NoColumn) [] passes).0
  term_there (terms.Lit value) passes = refl
  term_there (terms.Param name) passes = suits.there name (param_declared params name passes)

  term_of_kind : (kind : Option Kind) (term : Term) → first_denial (term_tests scope params term) ≡ None → kinds_fit kind (term_kind scope params term) ≡ true
      → kinds_fit kind (over.term_kind (kinds_in scope) given (bound_term scope params term)) ≡ true
  term_of_kind kind (terms.Col name) passes fits = ap (kinds_fit kind) (column_index_kind scope few (unqualified name)) ∙ fits
  term_of_kind kind (terms.Lit value) passes fits = fits
  term_of_kind kind (terms.Param name) passes fits = suits.fits kind name (param_declared params name passes) fits

  term_over : (kind : Kind) (term : Term) → first_denial (term_tests scope params term) ≡ None → kinds_fit (Some kind) (term_kind scope params term) ≡ true
      → over.term_fits (kinds_in scope) given kind (bound_term scope params term) ≡ true
  term_over kind term passes fits = and_from _ _ (term_there term passes) (term_of_kind (Some kind) term passes fits)

  abbrev bound_more : Option (Arith × Term) → Option (Arith × BoundTerm)
  bound_more more = option_map (λ more. (more.0, bound_term scope params more.1)) more

  -- what is computed fits the kind of the column
  expr_over : (kind : Kind) (first : Term) (more : Option (Arith × Term)) → first_denial (term_tests scope params first) ≡ None
      → first_denial (more_tests scope params more) ≡ None → expr_fits scope params (Some kind) first more ≡ true
      → (kinds_fit (Some kind) (Some (set_kind kind (bound_more more))) && over.term_fits (kinds_in scope) given kind (bound_term scope params first)
      && more_fits (kinds_in scope) given (bound_more more)) ≡ true
  expr_over kind first None passes rest fits = and_from _ _ (and_from _ _ (own_kind kind) (term_over kind first passes fits)) refl
  expr_over kind first (Some more) passes rest fits =
      let parts = and_parts _ _ fits in
      let ones = and_parts _ _ parts.0 in
      and_from _ _ (and_from _ _ ones.0 (term_over kind first passes (ap (λ one. kinds_fit (Some one) (term_kind scope params first)) (integer kind ones.0) ∙ ones.1)))
      (term_over kinds.Int more.1 rest parts.1)

  module _ (set : Set) where
    set_of_kind : (kind : Option Kind) → (kind ≡ None → ⊥) → first_denial (term_tests scope params set.expr.first) ≡ None
        → first_denial (more_tests scope params set.expr.more) ≡ None → expr_fits scope params kind set.expr.first set.expr.more ≡ true
        → set_fits_kind (kinds_in scope) given (bound_set scope params set) kind ≡ true
    set_of_kind None known passes rest fits = absurd (known refl)
    set_of_kind (Some kind) known passes rest fits = expr_over kind set.expr.first set.expr.more passes rest fits

    abbrev column : ℕ
    column = column_index_of scope (unqualified set.column)

    column_is : (named_count scope (unqualified set.column) == 0) ≡ false → slice_get (kinds_in scope) (as_position column) ≡ column_kind scope (unqualified set.column)
    column_is named =
        let within = column_index_within scope (unqualified set.column) named in
        let column_index : as_position column ≡ column = omega arith in
        ap (slice_get (kinds_in scope)) column_index ∙ column_index_kind scope few (unqualified set.column)

    set_over : (before : List Set) → first_denial (set_tests scope params before set) ≡ None → set_fits (kinds_in scope) given (bound_set scope params set) ≡ true
    set_over before passes =
        let kind = column_kind scope (unqualified set.column) in
        let terms = term_tests scope params set.expr.first ++ more_tests scope params set.expr.more in
        let fitting = test (not (expr_fits scope params kind set.expr.first set.expr.more)) denials.WrongType in
        let there = test (named_count scope (unqualified set.column) == 0) denials.NoColumn in
        let once = test (list_any (λ (other : Set). bytes_eq other.column set.column) before) denials.TwoColumns in
        let prefix = both_pass (there ∷ once ∷ terms) (fitting ∷ []) passes in
        let first = first_passes there (once ∷ terms) prefix.0 in
        let second = first_passes once terms first.1 in
        let both = both_pass (term_tests scope params set.expr.first) (more_tests scope params set.expr.more) second.1 in
        let fits = not-false _ (first_passes fitting [] prefix.1).0 in
        ap (set_fits_kind (kinds_in scope) given (bound_set scope params set)) (column_is first.0)
        ∙ set_of_kind kind (kind_known scope few (unqualified set.column) first.0) both.0 both.1 fits

  pub sets_over : (before sets : List Set) → first_denial (sets_tests scope params before sets) ≡ None
      → IsTrue (list_all (set_fits (kinds_in scope) given) (map (bound_set scope params) sets))
  sets_over before [] passes = refl
  sets_over before (set ∷ sets) passes =
      let parts = both_pass (set_tests scope params before set) (sets_tests scope params (before ++ set ∷ []) sets) passes in
      and_from _ _ (set_over set before parts.0) (sets_over (before ++ set ∷ []) sets parts.1)
