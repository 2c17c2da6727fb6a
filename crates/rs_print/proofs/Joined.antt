-- A row's values separated by commas: the first one, and then each further one after a comma.
use Rattle.std.proofs.Common.{◌≡◌, ℕ, ◌-◌, ◌<◌, List, [], ◌∷◌, ◌++◌, length, get_or, take, drop, map, sym, ap, ◌∙◌, append_assoc, arith}
use Rattle.std.specs.Prelude.{flat_map}
use Rattle.std.specs.List.{join_with_byte}
use Rattle.std.proofs.lemmas.List.{append-nil, take_all}
use Rattle.std.proofs.lemmas.List.Concat.{flat_map-cons}
use Rattle.rs_base.specs.declared.value.Value.{Value}
use Rattle.rs_base.specs.Printing.{printed_value}
use Rattle.rs_print.specs.Replies.{further_value}

join-first : (x : Value) (xs : List Value) → join_with_byte 44 (map printed_value (x ∷ xs)) ≡ printed_value x ++ flat_map further_value xs
join-first x [] = sym (append-nil (printed_value x))
join-first x (y ∷ ys) = ap (λ (rest : List ℕ). printed_value x ++ (44 ∷ rest)) (join-first y ys) ∙ ap (λ (rest : List ℕ). printed_value x ++ rest) (sym (flat_map-cons further_value y ys))

take_whole : {A : Type 0} (x : A) (xs : List A) → take (length (x ∷ xs) - 1) (drop 1 (x ∷ xs)) ≡ xs
take_whole x xs = grind (arith, take_all)

pub join-read : (row : List Value) (first : Value) → 0 < length row → first ≡ get_or row 0 first → join_with_byte 44 (map printed_value row) ≡ printed_value first ++ flat_map further_value (take (length row - 1) (drop 1 row))
join-read [] first long is = absurd (omega arith)
join-read (x ∷ xs) first long is = rw (is, take_whole x xs) (join-first x xs)

-- two parts, one after the other, are the whole
pub put_both : (old middle new first second whole : List ℕ) → whole ≡ first ++ second → middle ≡ old ++ first → new ≡ middle ++ second → new ≡ old ++ whole
put_both old middle new first second whole parts one two = rw (two, one, parts) (append_assoc old first second)
