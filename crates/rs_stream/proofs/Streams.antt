-- What streams over memory give, and what several calls of a stream do.
use Rattle.std.proofs.Common.{◌≡◌, ℕ, ◌+◌, ◌-◌, ◌<◌, min, List, [], ◌++◌, length, take, drop, Option, sym, ap, ◌∙◌, subst, arith}
use Rattle.std.proofs.lemmas.List.{length-take, length-drop, length-append, take_at, take-append-drop, nil_from_length}
use Rattle.std.proofs.Math.Seq.{take-add}
use Rattle.std.specs.Io.KnownBytes.{Appends}
use Rattle.std.proofs.KnownBytes.{Appends-trans}

-- a prefix of what is left was copied into a buffer
pub copied_prefix : (left into piece : List ℕ) (n : ℕ) → n ≡ min (length left) (length into) → piece ≡ take n left ++ drop n into → left ≡ take n piece ++ drop n left
copied_prefix left into piece n count copied =
    let prefix : take n piece ≡ take n left = ap (take n) copied ∙ take_at (take n left) (drop n into) n (omega (arith, length-take n left)) in
    sym (take-append-drop n left) ∙ ap (λ (bs : List ℕ). bs ++ drop n left) (sym prefix)

-- nothing was copied into a buffer that isn't empty: nothing was left
pub nothing_left : (left into piece : List ℕ) (n : ℕ) → n ≡ min (length left) (length into) → piece ≡ take n left ++ drop n into → n ≡ 0 → 0 < length piece → drop n left ≡ []
nothing_left left into piece n count copied none room =
    let len : length piece ≡ min n (length left) + (length into - n) = simp (length-append, length-take, length-drop) at (ap length copied) in
    nil_from_length (drop n left) (omega (arith, length-drop n left))

-- a prefix of the bytes was written, and then a prefix of the rest
pub written_more : (start old new : Option (List ℕ)) (bytes rest : List ℕ) (at n : ℕ) → rest ≡ drop at bytes → Appends start old (take at bytes) → Appends old new (take n rest) → Appends start new (take (at + n) bytes)
written_more start old new bytes rest at n is before more =
    let joined : take at bytes ++ take n rest ≡ take (at + n) bytes = ap (λ (bs : List ℕ). take at bytes ++ take n bs) is ∙ sym (take-add at n bytes) in
    subst (Appends start new) joined (Appends-trans start old new (take at bytes) (take n rest) before more)
