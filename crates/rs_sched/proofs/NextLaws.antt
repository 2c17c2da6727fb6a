-- The rest of a schedule, line by line.
use Rattle.std.proofs.Common.{◌≡◌, ℕ, ◌+◌, ◌≤◌, Bool, true, false, eqb, List, [], ◌∷◌, length, take, drop, refl, sym, ap, ◌∙◌, length-drop, arith}
use Rattle.std.specs.List.{prefix_len}
use Rattle.std.proofs.lemmas.Bool.{eqb-true}
use Rattle.rs_sched.specs.Lines.{lines_of, is_before_feed}
use Rattle.rs_sched.specs.Next.{is_none, first_of}
use Rattle.rs_sched.proofs.LineLaws.{lines_next}

not_none : (n : ℕ) → 1 ≤ n → eqb n 0 ≡ false
not_none n some = by_test (eqb n 0) refl
  where
    by_test : (test : Bool) → eqb n 0 ≡ test → eqb n 0 ≡ false
    by_test false e = e
    by_test true e = absurd (omega (arith, eqb-true n 0 e))

-- no line is left exactly if no byte is
pub none_left : (bytes : List ℕ) → eqb (length bytes) 0 ≡ is_none (lines_of bytes)
none_left [] = refl
none_left (b ∷ bytes) = not_none (length (b ∷ bytes)) (omega arith) ∙ sym (ap is_none (lines_next (b ∷ bytes) (omega arith)))

pub some_left : (bytes : List ℕ) → is_none (lines_of bytes) ≡ false → 1 ≤ length bytes
some_left [] e = absurd cc
some_left (b ∷ bytes) e = omega arith

pub first_left : (bytes : List ℕ) → 1 ≤ length bytes → take (prefix_len is_before_feed bytes) bytes ≡ first_of (lines_of bytes)
first_left bytes some = sym (ap first_of (lines_next bytes some))

pub rest_left : (bytes : List ℕ) → 1 ≤ length bytes → lines_of (drop 1 (drop (prefix_len is_before_feed bytes) bytes)) ≡ drop 1 (lines_of bytes)
rest_left bytes some = sym (ap (λ (lines : List (List ℕ)). drop 1 lines) (lines_next bytes some))

-- the bytes after a line are fewer
pub rest_smaller : (bytes rest : List ℕ) → 1 ≤ length bytes → rest ≡ drop 1 (drop (prefix_len is_before_feed bytes) bytes) → length rest + 1 ≤ length bytes
rest_smaller bytes rest some is =
    let n = prefix_len is_before_feed bytes in
    let one = length-drop 1 (drop n bytes) in
    let two = length-drop n bytes in
    let same = ap (λ (r : List ℕ). length r) is in
    omega arith
