-- The conditions for a reader of several steps to give a value.
use Rattle.std.proofs.Common.{◌≡◌, Bool, true, false, cond, List, ◌∷◌, Option, Some, None, refl, ap}
use Rattle.std.proofs.lemmas.Option.{same_Some}
use Rattle.rs_base.specs.Reading.{push_first}

-- a test that has to fail
pub barred : {A : Type 0} (test : Bool) (x y : A) → cond test None (Some x) ≡ Some y → (test ≡ false) × (x ≡ y)
barred true x y e = absurd cc
barred false x y e = (refl, same_Some x y e)

pub push_some : {A R : Type 0} (first : A) (read : Option (List A × R)) (xs : List A) (rest : R) → push_first first read ≡ Some (xs, rest) → (ys : List A) × (read ≡ Some (ys, rest)) × (first ∷ ys ≡ xs)
push_some first None xs rest e = absurd cc
push_some {A} {R} first (Some x) xs rest e =
    let same = same_Some (first ∷ x.0, x.1) (xs, rest) e in
    (x.0, ap (λ (r : R). Some (x.0, r)) (ap (λ (y : List A × R). y.1) same), ap (λ (y : List A × R). y.0) same)
