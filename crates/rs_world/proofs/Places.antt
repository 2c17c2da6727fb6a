-- The entries of a history with their positions.
use Rattle.std.proofs.Common.{◌≡◌, ℕ, ◌+◌, ◌<◌, List, [], ◌∷◌, ◌++◌, length, get_or, take, sym, ap, ◌∙◌, append_assoc, arith}
use Rattle.std.specs.Prelude.{flat_map}
use Rattle.std.specs.List.{enumerate_from}
use Rattle.std.proofs.lemmas.List.{take_more, length-take, append-nil}
use Rattle.std.proofs.lemmas.List.Concat.{flat_map-append}

pub enumerate_from-push : {X : Type 0} (n : ℕ) (xs : List X) (x : X) → enumerate_from n (xs ++ x ∷ []) ≡ enumerate_from n xs ++ (n + length xs, x) ∷ []
enumerate_from-push {X} n [] x = ap (λ (k : ℕ). (k, x) ∷ []) (omega arith)
enumerate_from-push {X} n (y ∷ ys) x =
    let position : (n + 1) + length ys ≡ n + length (y ∷ ys) = omega arith in
    ap (λ (es : List (ℕ × X)). (n, y) ∷ es) (enumerate_from-push (n + 1) ys x) ∙ ap (λ (k : ℕ). (n, y) ∷ (enumerate_from (n + 1) ys ++ (k, x) ∷ [])) position

-- one more entry printed
pub flat_map-enumerate-more : {X A : Type 0} (print : ℕ × X → List A) (n : ℕ) (xs : List X) (i position : ℕ) (x : X) → i < length xs → x ≡ get_or xs i x → position ≡ n + i
    → flat_map print (enumerate_from n (take (i + 1) xs)) ≡ flat_map print (enumerate_from n (take i xs)) ++ print (position, x)
flat_map-enumerate-more {X} {A} print n xs i position x lt is at =
    let more : take (i + 1) xs ≡ take i xs ++ x ∷ [] = take_more xs i x lt ∙ ap (λ (y : X). take i xs ++ y ∷ []) (sym is) in
    let len : n + length (take i xs) ≡ position = omega (arith, length-take i xs) in
    ap (λ (ys : List X). flat_map print (enumerate_from n ys)) more
    ∙ ap (flat_map print) (enumerate_from-push n (take i xs) x)
    ∙ flat_map-append print (enumerate_from n (take i xs)) ((n + length (take i xs), x) ∷ [])
    ∙ ap (λ (k : ℕ). flat_map print (enumerate_from n (take i xs)) ++ (print (k, x) ++ [])) len
    ∙ ap (λ (end : List A). flat_map print (enumerate_from n (take i xs)) ++ end) (append-nil (print (position, x)))

pub put_more : (start prefix middle new piece whole : List ℕ) → whole ≡ prefix ++ piece → middle ≡ start ++ prefix → new ≡ middle ++ piece → new ≡ start ++ whole
put_more start prefix middle new piece whole parts one two = rw (two, one, parts) (append_assoc start prefix piece)
