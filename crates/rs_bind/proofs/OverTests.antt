-- Tests that pass: none of them denies the statement.
use Rattle.std.proofs.Common.{◌≡◌, Bool, true, false, cond, List, [], ◌∷◌, ◌++◌, map, Option, Some, None, refl, ⊎_elim}
use Rattle.std.specs.Prelude.{flat_map}
use Rattle.std.specs.List.{list_any, list_all}
use Rattle.std.proofs.lemmas.Bool.{and_from, and_parts, or_cases, or_left, or_right}
use Rattle.rs_base.specs.declared.reply.Denial.{Denial}
use Rattle.rs_scope.specs.Denials.{Test, first_denial}

-- ---- tests

-- the first test passes, and so do those after it
pub first_passes : (first : Test) (tests : List Test) → first_denial (first ∷ tests) ≡ None → (first.fails ≡ false) × (first_denial tests ≡ None)
first_passes first tests =
    elim (first.fails) as (λ b. cond {A = Option Denial} b (Some first.cause) (first_denial tests) ≡ None → (b ≡ false) × (first_denial tests ≡ None))
    [ true ↦ λ e. absurd cc | false ↦ λ e. (refl, e) ]

one_more : (first : Test) (tests : List Test) → first.fails ≡ false → first_denial tests ≡ None → first_denial (first ∷ tests) ≡ None
one_more first tests passes rest = rw passes rest

-- some tests pass, and so do those after them
pub both_pass : (ones others : List Test) → first_denial (ones ++ others) ≡ None → (first_denial ones ≡ None) × (first_denial others ≡ None)
both_pass [] others e = (refl, e)
both_pass (first ∷ ones) others e =
    let now = first_passes first (ones ++ others) e in
    let later = both_pass ones others now.1 in
    (one_more first ones now.0 later.0, later.1)

module _ {X Y : Type 0} (made : X → Y) (fits : Y → Bool) where
  -- what is made of each item fits if its tests pass
  pub each_passes : (tests : X → List Test) → ((x : X) → first_denial (tests x) ≡ None → fits (made x) ≡ true) → (xs : List X)
      → first_denial (flat_map tests xs) ≡ None → list_all fits (map made xs) ≡ true
  each_passes tests each [] e = refl
  each_passes tests each (x ∷ xs) e =
      let parts = both_pass (tests x) (flat_map tests xs) e in
      and_from (fits (made x)) (list_all fits (map made xs)) (each x parts.0) (each_passes tests each xs parts.1)

  -- the same, if each item has another test too
  pub each_passes_too : (tests : X → List Test) (other : X → Test) → ((x : X) → first_denial (tests x) ≡ None → (other x).fails ≡ false → fits (made x) ≡ true)
      → (xs : List X) → first_denial (flat_map tests xs) ≡ None → first_denial (map other xs) ≡ None → list_all fits (map made xs) ≡ true
  each_passes_too tests other each [] e d = refl
  each_passes_too tests other each (x ∷ xs) e d =
      let parts = both_pass (tests x) (flat_map tests xs) e in
      let others = first_passes (other x) (map other xs) d in
      and_from (fits (made x)) (list_all fits (map made xs)) (each x parts.0 others.0) (each_passes_too tests other each xs parts.1 others.1)

  -- if a test of an item decides one of what is made of it, so it is for all, or for some
  module _ (test : X → Bool) (each : (x : X) → test x ≡ true → fits (made x) ≡ true) where
    pub all_made : (xs : List X) → list_all test xs ≡ true → list_all fits (map made xs) ≡ true
    all_made [] e = refl
    all_made (x ∷ xs) e =
        let parts = and_parts (test x) (list_all test xs) e in
        and_from (fits (made x)) (list_all fits (map made xs)) (each x parts.0) (all_made xs parts.1)

    pub any_made : (xs : List X) → list_any test xs ≡ true → list_any fits (map made xs) ≡ true
    any_made [] e = absurd cc
    any_made (x ∷ xs) e =
        ⊎_elim (λ now. or_left (fits (made x)) (list_any fits (map made xs)) (each x now))
        (λ later. or_right (fits (made x)) (list_any fits (map made xs)) (any_made xs later))
        (or_cases (test x) (list_any test xs) e)
