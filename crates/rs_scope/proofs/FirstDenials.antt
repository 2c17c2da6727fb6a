-- The first denial of tests, one after the other.
use Rattle.std.proofs.Common.{◌≡◌, ℕ, ◌+◌, ◌<◌, true, false, cond, List, [], ◌∷◌, ◌++◌, length, get_or, drop, Option, Some, None, is_some, refl, sym, ap, ◌∙◌}
use Rattle.std.specs.Prelude.{flat_map, MatchOption}
use Rattle.std.specs.Option.{option_or}
use Rattle.std.proofs.lemmas.List.{at_drop_more}
use Rattle.rs_base.specs.declared.reply.Denial.{Denial}
use Rattle.rs_scope.specs.Denials.{Test, first_denial}

pub first_denial-append : (one other : List Test) → first_denial (one ++ other) ≡ option_or (first_denial one) (first_denial other)
first_denial-append [] other = refl
first_denial-append (first ∷ one) other =
    elim (first.fails) as (λ b. cond b (Some first.cause) (first_denial (one ++ other)) ≡ option_or (cond b (Some first.cause) (first_denial one)) (first_denial other))
    [ true ↦ refl | false ↦ first_denial-append one other ]

-- if the first tests deny nothing, the others decide
pub first_or_other : (one other : List Test) (first both : Option Denial) → first ≡ first_denial one
    → MatchOption first (both ≡ first_denial other) (λ cause. both ≡ Some cause) → both ≡ first_denial (one ++ other)
first_or_other one other None both first_is both_is = both_is ∙ ap (λ (found : Option Denial). option_or found (first_denial other)) first_is ∙ sym (first_denial-append one other)
first_or_other one other (Some cause) both first_is both_is = both_is ∙ ap (λ (found : Option Denial). option_or found (first_denial other)) first_is ∙ sym (first_denial-append one other)

module _ {X : Type 0} (tests : X → List Test) where
  -- the first denial of the tests of each
  abbrev pub first_of : List X → Option Denial
  first_of xs = first_denial (flat_map tests xs)

  one_more : (x : X) (xs : List X) → first_of (x ∷ xs) ≡ option_or (first_denial (tests x)) (first_of xs)
  one_more x xs = first_denial-append (tests x) (flat_map tests xs)

  -- the tests of this one deny nothing, and the others are still to come
  pub one_passed : (xs : List X) (i : ℕ) (x : X) (denial total : Option Denial) → i < length xs → x ≡ get_or xs i x → denial ≡ first_denial (tests x) → is_some denial ≡ false
      → first_of (drop i xs) ≡ total → first_of (drop (i + 1) xs) ≡ total
  one_passed xs i x (Some cause) total inside here is passed so_far = absurd cc
  one_passed xs i x None total inside here is passed so_far =
      let more : first_of (drop i xs) ≡ first_of (get_or xs i x ∷ drop (i + 1) xs) = at_drop_more first_of xs i x inside in
      let at_x : first_of (get_or xs i x ∷ drop (i + 1) xs) ≡ first_of (x ∷ drop (i + 1) xs) = ap (λ y. first_of (y ∷ drop (i + 1) xs)) (sym here) in
      let rest : first_of (x ∷ drop (i + 1) xs) ≡ first_of (drop (i + 1) xs) = one_more x (drop (i + 1) xs) ∙ ap (λ (found : Option Denial). option_or found (first_of (drop (i + 1) xs))) (sym is) in
      sym rest ∙ sym at_x ∙ sym more ∙ so_far

  -- the tests of this one deny
  pub one_denied : (xs : List X) (i : ℕ) (x : X) (denial total : Option Denial) → i < length xs → x ≡ get_or xs i x → denial ≡ first_denial (tests x) → is_some denial ≡ true
      → first_of (drop i xs) ≡ total → denial ≡ total
  one_denied xs i x None total inside here is denied so_far = absurd cc
  one_denied xs i x (Some cause) total inside here is denied so_far =
      let more : first_of (drop i xs) ≡ first_of (get_or xs i x ∷ drop (i + 1) xs) = at_drop_more first_of xs i x inside in
      let at_x : first_of (get_or xs i x ∷ drop (i + 1) xs) ≡ first_of (x ∷ drop (i + 1) xs) = ap (λ y. first_of (y ∷ drop (i + 1) xs)) (sym here) in
      let this : first_of (x ∷ drop (i + 1) xs) ≡ Some cause = one_more x (drop (i + 1) xs) ∙ ap (λ (found : Option Denial). option_or found (first_of (drop (i + 1) xs))) (sym is) in
      sym (sym so_far ∙ more ∙ at_x ∙ this)
