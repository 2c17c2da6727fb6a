-- Positions in lists.
use Rattle.std.proofs.Common.{◌≡◌, ℕ, ◌≤◌, Bool, true, false, not, cond, nat_lt, List, length, Some, None, position, unwrap_or, refl, arith}
use Rattle.std.specs.List.{position_or_len}
use Rattle.std.proofs.lemmas.Bool.{ltb-false}
use Rattle.std.proofs.lemmas.List.Sums.{prefix_len-le-length}

inside_or_end : (at end : ℕ) → at ≤ end → (inside : Bool) → nat_lt at end ≡ inside → unwrap_or (cond inside (Some at) None) end ≡ at
inside_or_end at end within true is = refl
inside_or_end at end within false is = omega (arith, ltb-false at end is)

-- the position of the first that passes, or the number of all
pub position_or_end : {X : Type 0} (p : X → Bool) (xs : List X) → unwrap_or (position p xs) (length xs) ≡ position_or_len p xs
position_or_end p xs = inside_or_end (position_or_len p xs) (length xs) (prefix_len-le-length (λ x. not (p x)) xs) (nat_lt (position_or_len p xs) (length xs)) refl
