-- The parameters of a statement, and the kinds of their values.
use Rattle.std.proofs.Common.{◌≡◌, ℕ, zero, suc, ◌<◌, ◌≤◌, true, not, List, [], ◌∷◌, map, length, Option, Some, None, refl, sym, ap, ◌∙◌, subst, arith, lt-ltb}
use Rattle.std.specs.Prelude.{nat_lt, option_and_then}
use Rattle.std.specs.List.{position_or_len, slice_get}
use Rattle.std.proofs.lemmas.Bool.{not-false}
use Rattle.std.proofs.lemmas.List.{length-map}
use Rattle.std.proofs.lemmas.List.Folds.{find_at}
use Rattle.std.proofs.lemmas.List.Sums.{prefix_len-le-length}
use Rattle.rs_base.specs.declared.value.Kind.{Kind}
use Rattle.rs_base.specs.declared.value.Value.{Value}
use Rattle.rs_base.specs.Value.{kind_of}
use Rattle.rs_ast.specs.Kinds.{kinds_fit}
use Rattle.rs_plan.specs.Over.{has_value, param_kind}
use Rattle.rs_scope.specs.declared.scope.Param.{Param}
use Rattle.rs_scope.specs.Denials.{first_denial, param_test}
use Rattle.rs_scope.specs.Scope as scopes
use Rattle.rs_scope.specs.Scope.{is_param, is_declared, param_index}
use Rattle.rs_bind.specs.Entries.{params_of, kinds_given, unvalued, AreValuesOf}
use Rattle.rs_bind.proofs.OverScope.{any_found}
use Rattle.rs_bind.proofs.OverTests.{first_passes}

-- an unknown kind fits any
pub fits_any : (kind : Option Kind) → kinds_fit kind None ≡ true
fits_any None = refl
fits_any (Some kind) = refl

pub param_declared : (params : List Param) (name : List ℕ) → first_denial (param_test params name ∷ []) ≡ None → is_declared params name ≡ true
param_declared params name passes = not-false (is_declared params name) (first_passes (param_test params name) [] passes).0

index_within : (params : List Param) (name : List ℕ) → is_declared params name ≡ true → param_index params name < length params
index_within params name declared = let found = any_found (is_param name) params declared in omega arith

pub param_below : (params : List Param) (name : List ℕ) → first_denial (param_test params name ∷ []) ≡ None → nat_lt (param_index params name) (length params) ≡ true
param_below params name passes = lt-ltb (param_index params name) (length params) (index_within params name (param_declared params name passes))

-- The parameters have values of these kinds, if they are known.
pub record Suits (given : Option (List Kind)) (params : List Param) : Type 0 where
  pub there : (name : List ℕ) → is_declared params name ≡ true → has_value given (param_index params name) ≡ true
  pub fits : (kind : Option Kind) (name : List ℕ) → is_declared params name ≡ true → kinds_fit kind (scopes.param_kind params name) ≡ true
      → kinds_fit kind (param_kind given (param_index params name)) ≡ true

length_valued : (names : List (List ℕ)) (given : List Value) → length given ≡ length names → length (params_of names (Some given)) ≡ length given
length_valued [] [] long = refl
length_valued [] (value ∷ given) long = absurd (omega arith)
length_valued (name ∷ names) [] long = absurd (omega arith)
length_valued (name ∷ names) (value ∷ given) long = let rest = length_valued names given (omega arith) in omega arith

kind_at : (names : List (List ℕ)) (given : List Value) → length given ≡ length names → (i : ℕ)
    → option_and_then (λ (param : Param). param.kind) (slice_get (params_of names (Some given)) i) ≡ slice_get (map kind_of given) i
kind_at [] [] long i = refl
kind_at [] (value ∷ given) long i = absurd (omega arith)
kind_at (name ∷ names) [] long i = absurd (omega arith)
kind_at (name ∷ names) (value ∷ given) long zero = refl
kind_at (name ∷ names) (value ∷ given) long (suc i) = kind_at names given (omega arith) i

module _ (names : List (List ℕ)) (given : List Value) (long : length given ≡ length names) (few : length names ≤ 16) where
  abbrev params : List Param
  params = params_of names (Some given)

  index_is : (name : List ℕ) → param_index params name ≡ position_or_len (is_param name) params
  index_is name =
      let most = prefix_len-le-length (λ (param : Param). not (is_param name param)) params in
      let as_many = length_valued names given long in
      omega arith

  kind_is : (name : List ℕ) → scopes.param_kind params name ≡ slice_get (map kind_of given) (param_index params name)
  kind_is name =
      ap (option_and_then (λ (param : Param). param.kind)) (find_at (is_param name) params)
      ∙ ap (λ (i : ℕ). option_and_then (λ (param : Param). param.kind) (slice_get params i)) (sym (index_is name))
      ∙ kind_at names given long (param_index params name)

  suits_valued : Suits (Some (map kind_of given)) params
  suits_valued = record {
    there = λ name declared.
        let within = index_within params name declared in
        let as_many = length_valued names given long in
        let mapped = length-map given kind_of in
        lt-ltb (param_index params name) (length (map kind_of given)) (omega arith);
    fits = λ kind name declared fits. subst (λ (known : Option Kind). kinds_fit kind known ≡ true) (kind_is name) fits;
  }

pub suits : (names : List (List ℕ)) (given : Option (List Value)) → length names ≤ 16 → AreValuesOf names given → Suits (kinds_given given) (params_of names given)
suits names None few are = record { there = λ name declared. refl; fits = λ kind name declared fits. fits_any kind }
suits names (Some given) few are = suits_valued names given are few

pub as_many_params : (names : List (List ℕ)) (given : Option (List Value)) → AreValuesOf names given → length (params_of names given) ≡ length names
as_many_params names None are = length-map names unvalued
as_many_params names (Some given) are = length_valued names given are ∙ are
