-- The numbers that are left.
use Rattle.std.proofs.Common.{◌≡◌, ℕ, zero, suc, ◌+◌, ◌<◌, List, [], ◌∷◌, length, get_or, drop, Some, None, refl, add-one, drop-cons}
use Rattle.std.specs.Prelude.{slice_get}
use Rattle.std.proofs.lemmas.Option.{slice_get_within, get_or_from_slice_get}

-- the number at this position, and those after it
pub drop_at : (xs : List ℕ) (i x : ℕ) → slice_get xs i ≡ Some x → drop i xs ≡ x ∷ drop (i + 1) xs
drop_at xs i x found =
    let within : i < length xs = slice_get_within xs i x found in
    let own : get_or xs i x ≡ x = get_or_from_slice_get xs i x x found in
    rw (add-one, drop-cons xs i x, own) refl

-- no number is left
pub drop_past : (xs : List ℕ) (i : ℕ) → slice_get xs i ≡ None → drop i xs ≡ []
drop_past [] zero none = refl
drop_past [] (suc i) none = refl
drop_past (x ∷ xs) zero none = cc
drop_past (x ∷ xs) (suc i) none = drop_past xs i none
