-- Two lists compared item by item.
use Rattle.std.proofs.Common.{◌≡◌, List, [], ◌∷◌, Bool, ◌&&◌, length, refl, ap, arith}
use Rattle.std.specs.List.{list_all, zip}
use Rattle.std.specs.Cmp.Lexicographic.{pointwise}

-- for lists of one length, the test of all pairs compares them whole
pub all_pairs_pointwise : {A B : Type 0} (f : A → B → Bool) (xs : List A) (ys : List B) → length xs ≡ length ys
    → list_all (λ (p : A × B). f p.0 p.1) (zip xs ys) ≡ pointwise f xs ys
all_pairs_pointwise f [] [] e = refl
all_pairs_pointwise f [] (y ∷ ys) e = absurd (omega arith)
all_pairs_pointwise f (x ∷ xs) [] e = absurd (omega arith)
all_pairs_pointwise f (x ∷ xs) (y ∷ ys) e = ap (λ b. f x y && b) (all_pairs_pointwise f xs ys (omega arith))
