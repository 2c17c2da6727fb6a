-- Two lists compared item by item.
use Rattle.std.proofs.Common.{◌≡◌, List, [], ◌∷◌, Bool, true, false, ◌&&◌, map, length, refl, ap, arith}
use Rattle.std.specs.List.{list_all, zip}
use Rattle.std.specs.Cmp.Lexicographic.{pointwise}

module _ {A B C : Type 0} (f : A → C → Bool) (g : B → C) where
  -- for lists of one length, the test of all pairs compares them whole
  pub all_pairs_pointwise : (xs : List A) (ys : List B) → length xs ≡ length ys → list_all (λ (p : A × B). f p.0 (g p.1)) (zip xs ys) ≡ pointwise f xs (map g ys)
  all_pairs_pointwise [] [] e = refl
  all_pairs_pointwise [] (y ∷ ys) e = absurd (omega arith)
  all_pairs_pointwise (x ∷ xs) [] e = absurd (omega arith)
  all_pairs_pointwise (x ∷ xs) (y ∷ ys) e = ap (λ b. f x (g y) && b) (all_pairs_pointwise xs ys (omega arith))

  -- those of two lengths differ
  pub lengths_differ : (xs : List A) (ys : List B) → (length xs ≡ length ys → ⊥) → false ≡ pointwise f xs (map g ys)
  lengths_differ [] [] differ = absurd (differ refl)
  lengths_differ [] (y ∷ ys) differ = refl
  lengths_differ (x ∷ xs) [] differ = refl
  lengths_differ (x ∷ xs) (y ∷ ys) differ = rw (← lengths_differ xs ys (λ same. differ (omega arith))) (and_false (f x (g y)))
    where
      and_false : (b : Bool) → false ≡ (b && false)
      and_false b = elim b as (λ c. false ≡ (c && false)) [ true ↦ refl | false ↦ refl ]
