-- The first denial of assignments, each of which is tested after those before it.
use Rattle.std.proofs.Common.{◌≡◌, ℕ, ◌+◌, ◌<◌, ◌≤◌, true, false, List, [], ◌∷◌, ◌++◌, length, get_or, take, drop, Option, Some, None, is_some, sym, ap, ◌∙◌}
use Rattle.std.specs.Option.{option_or}
use Rattle.std.proofs.lemmas.List.{drop_more, take_more, drop_all}
use Rattle.rs_base.specs.declared.reply.Denial.{Denial}
use Rattle.rs_ast.specs.declared.change.Set.{Set}
use Rattle.rs_scope.specs.declared.scope.Param.{Param}
use Rattle.rs_scope.specs.declared.scope.ScopeColumn.{ScopeColumn}
use Rattle.rs_bind_change.specs.Denials.{set_tests, sets_tests}
use Rattle.rs_scope.specs.Denials.{first_denial}
use Rattle.rs_scope.proofs.FirstDenials.{first_denial-append}

module _ (scope : List ScopeColumn) (params : List Param) (sets : List Set) where
  -- the first denial from this assignment on
  abbrev pub first_from : ℕ → Option Denial
  first_from i = first_denial (sets_tests scope params (take i sets) (drop i sets))

  one_more : (i : ℕ) (set : Set) → i < length sets → set ≡ get_or sets i set
      → first_from i ≡ option_or (first_denial (set_tests scope params (take i sets) set)) (first_from (i + 1))
  one_more i set inside here =
      let prefix : take i sets ++ set ∷ [] ≡ take (i + 1) sets = ap (λ x. take i sets ++ x ∷ []) here ∙ sym (take_more sets i set inside) in
      let rest : drop i sets ≡ set ∷ drop (i + 1) sets = drop_more sets i set inside ∙ ap (λ x. x ∷ drop (i + 1) sets) (sym here) in
      ap (λ xs. first_denial (sets_tests scope params (take i sets) xs)) rest
      ∙ first_denial-append (set_tests scope params (take i sets) set) (sets_tests scope params (take i sets ++ set ∷ []) (drop (i + 1) sets))
      ∙ ap (λ before. option_or (first_denial (set_tests scope params (take i sets) set)) (first_denial (sets_tests scope params before (drop (i + 1) sets)))) prefix

  -- the tests of this assignment deny nothing, and the others are still to come
  pub set_passed : (i : ℕ) (set : Set) (denial total : Option Denial) → i < length sets → set ≡ get_or sets i set
      → denial ≡ first_denial (set_tests scope params (take i sets) set) → is_some denial ≡ false → first_from i ≡ total → first_from (i + 1) ≡ total
  set_passed i set (Some cause) total inside here is passed so_far = absurd cc
  set_passed i set None total inside here is passed so_far =
      sym (one_more i set inside here ∙ ap (λ (found : Option Denial). option_or found (first_from (i + 1))) (sym is)) ∙ so_far

  -- the tests of this assignment deny
  pub set_denied : (i : ℕ) (set : Set) (denial total : Option Denial) → i < length sets → set ≡ get_or sets i set
      → denial ≡ first_denial (set_tests scope params (take i sets) set) → is_some denial ≡ true → first_from i ≡ total → denial ≡ total
  set_denied i set None total inside here is denied so_far = absurd cc
  set_denied i set (Some cause) total inside here is denied so_far =
      sym (one_more i set inside here ∙ ap (λ (found : Option Denial). option_or found (first_from (i + 1))) (sym is)) ∙ so_far

  -- none of them denies
  pub sets_passed : (i : ℕ) (total : Option Denial) → length sets ≤ i → first_from i ≡ total → None ≡ total
  sets_passed i total end so_far = sym (ap (λ xs. first_denial (sets_tests scope params (take i sets) xs)) (drop_all i sets end)) ∙ so_far
