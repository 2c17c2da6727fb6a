-- What follows from the answers of tests.
use Rattle.std.proofs.Common.{◌≡◌, Bool, true, false, not, cond, ◌&&◌, ◌||◌, List, ◌∷◌, Option, Some, None, is_some, refl}
use Rattle.rs_base.specs.declared.reply.Denial.{Denial}
use Rattle.rs_scope.specs.Denials.{Test, first_denial}

-- the first test didn't fail, and no later one did
pub passed : (first : Test) (tests : List Test) → first_denial (first ∷ tests) ≡ None → (first.fails ≡ false) × (first_denial tests ≡ None)
passed first tests =
    elim first.fails as (λ b. cond {A = Option Denial} b (Some first.cause) (first_denial tests) ≡ None → (b ≡ false) × (first_denial tests ≡ None))
    [ true ↦ λ e. absurd cc | false ↦ λ e. (refl, e) ]

pub holds_if : (b : Bool) → not b ≡ false → b ≡ true
holds_if true e = refl
holds_if false e = absurd cc

pub absent_if : {A : Type 0} (found : Option A) → is_some found ≡ false → found ≡ None
absent_if None e = refl
absent_if (Some x) e = absurd cc

pub not_false : (b : Bool) → not b ≡ true → b ≡ false
not_false true e = absurd cc
not_false false e = refl

pub neither : (a b : Bool) → (a || b) ≡ false → (a ≡ false) × (b ≡ false)
neither true b e = absurd cc
neither false b e = (refl, e)

pub both : (a b : Bool) → (a && b) ≡ true → (a ≡ true) × (b ≡ true)
both true b e = (refl, e)
both false b e = absurd cc
