-- Steps of a reader that gave a value.
use Rattle.std.proofs.Common.{◌≡◌, Bool, true, false, cond, Option, Some, None, refl, ap}
use Rattle.rs_base.specs.Reading.{◌>>=◌}

-- the value of such a step
pub bind_some : {A B : Type 0} (read : Option A) (f : A → Option B) (y : B) → (read >>= f) ≡ Some y → (x : A) × (read ≡ Some x) × (f x ≡ Some y)
bind_some (Some x) f y e = (x, refl, e)
bind_some None f y e = absurd cc

-- the value's continuation
pub bind_at : {A B : Type 0} (read : Option A) (f : A → Option B) (x : A) → read ≡ Some x → (read >>= f) ≡ f x
bind_at read f x e = ap (λ (o : Option _). o >>= f) e

-- a test that held
pub chosen : {A : Type 0} (test : Bool) (read : Option A) (y : A) → cond test read None ≡ Some y → (test ≡ true) × (read ≡ Some y)
chosen true read y e = (refl, e)
chosen false read y e = absurd cc
