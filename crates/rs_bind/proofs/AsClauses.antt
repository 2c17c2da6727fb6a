-- Names and predicates that are not denied are bound as they are written.
use Rattle.std.proofs.Common.{◌≡◌, ℕ, zero, suc, ◌<◌, ◌≤◌, false, not, List, [], ◌∷◌, ◌++◌, map, length, Option, Some, None, refl, ap, ◌∙◌, arith, pos_of_ne-zero, ltb-false}
use Rattle.std.specs.Prelude.{◌==◌, nat_lt, flat_map}
use Rattle.std.specs.List.{AllZip, position_or_len, slice_get}
use Rattle.std.specs.Option.{option_map}
use Rattle.std.proofs.lemmas.Bool.{eqb-false}
use Rattle.std.proofs.lemmas.Slice.Eq.{bytes_eq-Decides}
use Rattle.rs_base.specs.declared.reply.Denial.TheVariants as denials
use Rattle.rs_base.specs.declared.value.Value.{Value}
use Rattle.rs_ast.specs.declared.bound.BoundCmp.{BoundCmp}
use Rattle.rs_ast.specs.declared.clause.Clause.{Clause}
use Rattle.rs_ast.specs.declared.clause.Cmp.{Cmp}
use Rattle.rs_ast.specs.declared.clause.Operand.{Operand}
use Rattle.rs_ast.specs.declared.clause.Operand.TheVariants as operands
use Rattle.rs_ast.specs.declared.column.ColRef.{ColRef}
use Rattle.rs_ast.specs.Kinds.{kinds_fit}
use Rattle.rs_scope.specs.declared.scope.Param.{Param}
use Rattle.rs_scope.specs.declared.scope.ScopeColumn.{ScopeColumn}
use Rattle.rs_scope.specs.Denials.{Test, test, first_denial, param_test, column_tests, operand_tests, operand_kind, cmp_tests, clauses_tests}
use Rattle.rs_scope.specs.Predicates.{bound_side, bound_cmp, bound_clauses}
use Rattle.rs_scope.specs.Scope.{is_param, named_count, column_index_of, column_kind, param_index}
use Rattle.rs_bind.specs.AsWritten.{IsOnlyAt, IsParamAt, IsSideAs, IsCmpAs, AreClausesAs}
use Rattle.rs_bind.specs.Entries.{unvalued, params_of, AreValuesOf}
use Rattle.rs_bind.proofs.OverParams.{param_declared, as_many_params}
use Rattle.rs_bind.proofs.OverScope.{any_found}
use Rattle.rs_bind.proofs.OverTests.{first_passes, both_pass}
use Rattle.rs_bind.proofs.Places.{found_at, named_at}

-- ---- items

module _ {X Y : Type 0} (made : X → Y) (R : X → Y → Type 0) (tests : X → List Test) where
  -- what is made of each item is related to it if its tests pass
  pub each_as : ((x : X) → first_denial (tests x) ≡ None → R x (made x)) → (xs : List X) → first_denial (flat_map tests xs) ≡ None → AllZip R xs (map made xs)
  each_as each [] passes = tt
  each_as each (x ∷ xs) passes =
      let parts = both_pass (tests x) (flat_map tests xs) passes in
      (each x parts.0, each_as each xs parts.1)

  -- the same, if each item has another test too
  pub each_as_too : (other : X → Test) → ((x : X) → first_denial (tests x) ≡ None → (other x).fails ≡ false → R x (made x)) → (xs : List X)
      → first_denial (flat_map tests xs) ≡ None → first_denial (map other xs) ≡ None → AllZip R xs (map made xs)
  each_as_too other each [] passes others = tt
  each_as_too other each (x ∷ xs) passes others =
      let parts = both_pass (tests x) (flat_map tests xs) passes in
      let rest = first_passes (other x) (map other xs) others in
      (each x parts.0 rest.0, each_as_too other each xs parts.1 rest.1)

-- ---- parameters

unvalued_at : (names : List (List ℕ)) (i : ℕ) (param : Param) → slice_get (map unvalued names) i ≡ Some param → slice_get names i ≡ Some param.name
unvalued_at [] i param there = absurd cc
unvalued_at (name ∷ names) zero param there = ap (option_map (λ (p : Param). p.name)) there
unvalued_at (name ∷ names) (suc i) param there = unvalued_at names i param there

valued_at : (names : List (List ℕ)) (given : List Value) (i : ℕ) (param : Param) → slice_get (params_of names (Some given)) i ≡ Some param → slice_get names i ≡ Some param.name
valued_at [] [] i param there = absurd cc
valued_at [] (value ∷ given) i param there = absurd cc
valued_at (name ∷ names) [] i param there = absurd cc
valued_at (name ∷ names) (value ∷ given) zero param there = ap (option_map (λ (p : Param). p.name)) there
valued_at (name ∷ names) (value ∷ given) (suc i) param there = valued_at names given i param there

name_at : (names : List (List ℕ)) (given : Option (List Value)) (i : ℕ) (param : Param) → slice_get (params_of names given) i ≡ Some param → slice_get names i ≡ Some param.name
name_at names None i param there = unvalued_at names i param there
name_at names (Some given) i param there = valued_at names given i param there

-- The parameters have these names, in order.
abbrev pub AreNamed : List (List ℕ) → List Param → Type 0
AreNamed names params = (name : List ℕ) → first_denial (param_test params name ∷ []) ≡ None → IsParamAt names name (param_index params name)

pub params_are_named : (names : List (List ℕ)) (given : Option (List Value)) → length names ≤ 16 → AreValuesOf names given → AreNamed names (params_of names given)
params_are_named names given few are name passes =
    let params : List Param = params_of names given in
    let within : position_or_len (is_param name) params < length params = any_found (is_param name) params (param_declared params name passes) in
    let as_many : length params ≡ length names = as_many_params names given are in
    let index : param_index params name ≡ position_or_len (is_param name) params = omega arith in
    let found = found_at (is_param name) params within in
    ap (slice_get names) index ∙ name_at names given (position_or_len (is_param name) params) found.0 found.1
    ∙ ap (λ (one : List ℕ). Some one) ((bytes_eq-Decides found.0.name name).0 found.2)

-- ---- columns and predicates

module _ (scope : List ScopeColumn) (few : length scope ≤ 96) where
  pub column_as : (written : ColRef) → first_denial (column_tests scope written) ≡ None → IsOnlyAt scope written (column_index_of scope written)
  column_as written passes =
      let twice = test (nat_lt 1 (named_count scope written)) denials.TwoColumns in
      let first = first_passes (test (named_count scope written == 0) denials.NoColumn) (twice ∷ []) passes in
      let second = first_passes twice [] first.1 in
      let some = pos_of_ne-zero (eqb-false (named_count scope written) 0 first.0) in
      let most = ltb-false 1 (named_count scope written) second.0 in
      record { named = named_at scope few written first.0; only = omega arith }

  module _ (names : List (List ℕ)) (params : List Param) (named : AreNamed names params) where
    side_as : (right : Operand) → first_denial (operand_tests scope params right) ≡ None → IsSideAs scope names right (bound_side scope params right)
    side_as (operands.Col written) passes = column_as written passes
    side_as (operands.Lit value) passes = refl
    side_as (operands.Param name) passes = named name passes

    cmp_as : (cmp : Cmp) → first_denial (cmp_tests scope params cmp) ≡ None → IsCmpAs scope names cmp (bound_cmp scope params cmp)
    cmp_as cmp passes =
        let kinds = test (not (kinds_fit (column_kind scope cmp.left) (operand_kind scope params cmp.right))) denials.WrongType in
        let parts = both_pass (column_tests scope cmp.left ++ operand_tests scope params cmp.right) (kinds ∷ []) passes in
        let sides = both_pass (column_tests scope cmp.left) (operand_tests scope params cmp.right) parts.0 in
        record { left = column_as cmp.left sides.0; op = refl; right = side_as cmp.right sides.1 }

    pub clauses_as : (clauses : List Clause) → first_denial (clauses_tests scope params clauses) ≡ None → AreClausesAs scope names clauses (bound_clauses scope params clauses)
    clauses_as clauses passes =
        each_as (λ (clause : Clause). map (bound_cmp scope params) clause.any) (λ (clause : Clause) (cmps : List BoundCmp). AllZip (IsCmpAs scope names) clause.any cmps)
        (λ (clause : Clause). flat_map (cmp_tests scope params) clause.any)
        (λ clause one. each_as (bound_cmp scope params) (IsCmpAs scope names) (cmp_tests scope params) cmp_as clause.any one)
        clauses passes
