-- Predicates that are not denied fit the columns.
use Rattle.std.proofs.Common.{◌≡◌, ◌≤◌, true, not, List, [], ◌∷◌, ◌++◌, map, length, Option, Some, None, IsTrue, refl, ap, ap₂, ◌∙◌}
use Rattle.std.specs.Prelude.{flat_map}
use Rattle.std.specs.List.{list_all, slice_get}
use Rattle.std.proofs.lemmas.Bool.{and_from, not-false}
use Rattle.rs_base.specs.declared.reply.Denial.TheVariants as denials
use Rattle.rs_base.specs.declared.value.Kind.{Kind}
use Rattle.rs_base.specs.Value.{kind_of}
use Rattle.rs_ast.specs.declared.clause.Clause.{Clause}
use Rattle.rs_ast.specs.declared.clause.Cmp.{Cmp}
use Rattle.rs_ast.specs.declared.clause.Operand.{Operand}
use Rattle.rs_ast.specs.declared.clause.Operand.TheVariants as operands
use Rattle.rs_ast.specs.declared.column.ColRef.{ColRef}
use Rattle.rs_ast.specs.Kinds.{kinds_fit}
use Rattle.rs_plan.specs.Over.{side_kind, side_is_there, cmp_fits, clauses_fit}
use Rattle.rs_plan.specs.Params.{side_is_below, cmp_is_below, clauses_are_below}
use Rattle.rs_scope.specs.declared.scope.Param.{Param}
use Rattle.rs_scope.specs.declared.scope.ScopeColumn.{ScopeColumn}
use Rattle.rs_scope.specs.Predicates.{bound_side, bound_cmp, bound_clauses}
use Rattle.rs_scope.specs.Denials.{test, first_denial, column_tests, operand_tests, operand_kind, cmp_tests, clauses_tests}
use Rattle.rs_scope.specs.Scope.{column_index_of, column_kind, param_kind}
use Rattle.rs_bind.proofs.OverParams.{Suits, param_declared, param_below}
use Rattle.rs_bind.proofs.OverScope.{kinds_in, column_there, column_index_kind}
use Rattle.rs_bind.proofs.OverTests.{first_passes, both_pass, each_passes}

-- each parameter is below their number
module _ (scope : List ScopeColumn) (params : List Param) where
  side_below : (right : Operand) → first_denial (operand_tests scope params right) ≡ None → side_is_below (length params) (bound_side scope params right) ≡ true
  side_below (operands.Col written) passes = refl
  side_below (operands.Lit value) passes = refl
  side_below (operands.Param name) passes = param_below params name passes

  cmp_below : (cmp : Cmp) → first_denial (cmp_tests scope params cmp) ≡ None → cmp_is_below (length params) (bound_cmp scope params cmp) ≡ true
  cmp_below cmp passes =
      let kinds = test (not (kinds_fit (column_kind scope cmp.left) (operand_kind scope params cmp.right))) denials.WrongType in
      let names = (both_pass (column_tests scope cmp.left ++ operand_tests scope params cmp.right) (kinds ∷ []) passes).0 in
      side_below cmp.right (both_pass (column_tests scope cmp.left) (operand_tests scope params cmp.right) names).1

  pub clauses_below : (clauses : List Clause) → first_denial (clauses_tests scope params clauses) ≡ None
      → clauses_are_below (length params) (bound_clauses scope params clauses) ≡ true
  clauses_below clauses passes =
      each_passes (λ (clause : Clause). map (bound_cmp scope params) clause.any) (list_all (cmp_is_below (length params)))
      (λ (clause : Clause). flat_map (cmp_tests scope params) clause.any)
      (λ clause one. each_passes (bound_cmp scope params) (cmp_is_below (length params)) (cmp_tests scope params) cmp_below clause.any one)
      clauses passes

module _ (scope : List ScopeColumn) (params : List Param) (given : Option (List Kind)) (suits : Suits given params) (small : length scope ≤ 96) where
  side_there : (right : Operand) → first_denial (operand_tests scope params right) ≡ None → side_is_there (kinds_in scope) given (bound_side scope params right) ≡ true
  side_there (operands.Col written) passes = column_there scope written passes
  side_there (operands.Lit value) passes = refl
  side_there (operands.Param name) passes = suits.there name (param_declared params name passes)

  side_fits : (left : ColRef) (right : Operand) → first_denial (operand_tests scope params right) ≡ None → kinds_fit (column_kind scope left) (operand_kind scope params right) ≡ true
      → kinds_fit (slice_get (kinds_in scope) (column_index_of scope left)) (side_kind (kinds_in scope) given (bound_side scope params right)) ≡ true
  side_fits left (operands.Col written) passes fits = ap₂ kinds_fit (column_index_kind scope small left) (column_index_kind scope small written) ∙ fits
  side_fits left (operands.Lit value) passes fits = ap (λ kind. kinds_fit kind (Some (kind_of value))) (column_index_kind scope small left) ∙ fits
  side_fits left (operands.Param name) passes fits =
      suits.fits (slice_get (kinds_in scope) (column_index_of scope left)) name (param_declared params name passes)
      (ap (λ kind. kinds_fit kind (param_kind params name)) (column_index_kind scope small left) ∙ fits)

  cmp_over : (cmp : Cmp) → first_denial (cmp_tests scope params cmp) ≡ None → cmp_fits (kinds_in scope) given (bound_cmp scope params cmp) ≡ true
  cmp_over cmp passes =
      let names = column_tests scope cmp.left ++ operand_tests scope params cmp.right in
      let kinds = test (not (kinds_fit (column_kind scope cmp.left) (operand_kind scope params cmp.right))) denials.WrongType in
      let parts = both_pass names (kinds ∷ []) passes in
      let sides = both_pass (column_tests scope cmp.left) (operand_tests scope params cmp.right) parts.0 in
      let fits = side_fits cmp.left cmp.right sides.1 (not-false _ (first_passes kinds [] parts.1).0) in
      let left = column_there scope cmp.left sides.0 in
      let right = side_there cmp.right sides.1 in
      and_from _ _ (and_from _ _ left right) fits

  pub clauses_over : (clauses : List Clause) → first_denial (clauses_tests scope params clauses) ≡ None → IsTrue (clauses_fit (kinds_in scope) given (bound_clauses scope params clauses))
  clauses_over clauses passes =
      each_passes (λ (clause : Clause). map (bound_cmp scope params) clause.any) (list_all (cmp_fits (kinds_in scope) given))
      (λ (clause : Clause). flat_map (cmp_tests scope params) clause.any)
      (λ clause one. each_passes (bound_cmp scope params) (cmp_fits (kinds_in scope) given) (cmp_tests scope params) cmp_over clause.any one)
      clauses passes
