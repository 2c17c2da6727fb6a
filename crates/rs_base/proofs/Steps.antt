-- What it takes for a reader of several steps to give a value.
use Rattle.std.proofs.Common.{◌≡◌, Bool, true, false, cond, Option, Some, None, refl, ◌⊎◌, inl, inr}
use Rattle.rs_base.specs.Reading.{◌>>=◌}

-- the value of a step that did not fail
pub bind_some : {A B : Type 0} (read : Option A) (f : A → Option B) (y : B) → (read >>= f) ≡ Some y → (x : A) × (read ≡ Some x) × (f x ≡ Some y)
bind_some None f y e = absurd cc
bind_some (Some x) f y e = (x, refl, e)

-- one of two, by a test
pub chosen : {A : Type 0} (test : Bool) (x y : Option A) (z : A) → cond test x y ≡ Some z → ((test ≡ true) × (x ≡ Some z)) ⊎ ((test ≡ false) × (y ≡ Some z))
chosen true x y z e = inl (refl, e)
chosen false x y z e = inr (refl, e)

-- a test that had to hold
pub held : {A : Type 0} (test : Bool) (read : Option A) (y : A) → cond test read None ≡ Some y → (test ≡ true) × (read ≡ Some y)
held true read y e = (refl, e)
held false read y e = absurd cc
