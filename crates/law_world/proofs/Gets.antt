-- Lists that grow at their end, position by position.
use Rattle.std.proofs.Common.{◌≡◌, ℕ, zero, suc, ◌+◌, ◌<◌, ◌⊎◌, inl, inr, List, [], ◌∷◌, ◌++◌, length, take, Some, refl, ap, ◌∙◌, arith}
use Rattle.std.specs.Prelude.{slice_get}

-- a position of a list with x at its end has an element of the list, or x
pub get_push : {X : Type 0} (xs : List X) (x y : X) (i : ℕ) → slice_get (xs ++ x ∷ []) i ≡ Some y → ((i < length xs) × (slice_get xs i ≡ Some y)) ⊎ ((i ≡ length xs) × (x ≡ y))
get_push [] x y zero e = inr (refl, cc)
get_push [] x y (suc i) e = absurd cc
get_push (z ∷ zs) x y zero e = inl (omega arith, e)
get_push (z ∷ zs) x y (suc i) e =
    elim (get_push zs x y i e) [
      | inl p ↦ inl (omega (arith, p.0), p.1)
      | inr q ↦ inr (omega (arith, q.0), q.1)
    ]

-- each position below the length has an element
pub get_at : {X : Type 0} (xs : List X) (i : ℕ) → i < length xs → (y : X) × (slice_get xs i ≡ Some y)
get_at [] i lt = absurd (omega arith)
get_at (x ∷ xs) zero lt = (x, refl)
get_at (x ∷ xs) (suc i) lt = get_at xs i (omega arith)

-- one more element, by what is at its position
pub take-get : {X : Type 0} (xs : List X) (i : ℕ) (y : X) → slice_get xs i ≡ Some y → take (i + 1) xs ≡ take i xs ++ y ∷ []
take-get [] i y e = absurd cc
take-get (x ∷ xs) zero y e = let same : x ≡ y = cc in ap (λ (z : _). z ∷ []) same
take-get {X} (x ∷ xs) (suc i) y e =
    let same : suc i + 1 ≡ suc (i + 1) = omega arith in
    ap (λ (n : ℕ). take n (x ∷ xs)) same ∙ ap (λ (zs : List X). x ∷ zs) (take-get xs i y e)
