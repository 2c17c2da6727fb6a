-- Rows one after the other in a list of values.
use Rattle.std.specs.Prelude.{ℕ, List, [], ◌∷◌, take, drop}

-- the values cut into rows of these widths
abbrev pub cut : {A : Type 0} → List ℕ → List A → List (List A)
cut [] values = []
cut (width ∷ widths) values = take width values ∷ cut widths (drop width values)
