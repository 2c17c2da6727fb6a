-- Sites as they are opened, one after the other.
use Rattle.std.proofs.Common.{◌≡◌, ℕ, zero, suc, ◌+◌, List, [], ◌∷◌, ◌++◌, map, sym, ap, ◌∙◌, arith}
use Rattle.std.specs.List.{range_with_len}
use Rattle.rs_site.specs.State.{SiteState, opened}

-- one more of a row of numbers
pub one_more : {X : Type 0} (f : ℕ → X) (a n m : ℕ) → m ≡ a + n → map f (range_with_len a (n + 1)) ≡ map f (range_with_len a n) ++ f m ∷ []
one_more {X} f a zero m is = ap (λ (k : ℕ). f k ∷ []) (omega arith)
one_more {X} f a (suc n) m is =
    let next : suc n + 1 ≡ suc (n + 1) = omega arith in
    ap (λ (k : ℕ). map f (range_with_len a k)) next ∙ ap (λ (xs : List X). f a ∷ xs) (one_more f (a + 1) n m (omega arith))

-- the next site was opened
pub opened_more : (last n me : ℕ) (sites new : List SiteState) (site : SiteState) → sites ≡ map (λ m. opened m last) (range_with_len 1 n) → site ≡ opened me last → me ≡ n + 1 → new ≡ sites ++ site ∷ []
    → new ≡ map (λ m. opened m last) (range_with_len 1 (n + 1))
opened_more last n me sites new site so_far is at pushed =
    let more = one_more (λ m. opened m last) 1 n me (omega (arith, at)) in
    rw (pushed, so_far, is) (sym more)
