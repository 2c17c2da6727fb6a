-- Tests and optional values.
use Rattle.std.proofs.Common.{◌≡◌, Bool, true, false, ◌&&◌, ◌||◌, cond, Option, Some, None, refl, sym, ap, ◌∙◌, ◌⊎◌, inl, inr}
use Rattle.std.specs.Option.{option_or}

pub or_false : (x : Bool) → (x || false) ≡ x
or_false true = refl
or_false false = refl

pub or_swap : (x y : Bool) → (x || y) ≡ (y || x)
or_swap true true = refl
or_swap true false = refl
or_swap false true = refl
or_swap false false = refl

pub cond_same : {A : Type 0} (b : Bool) (x : A) → cond b x x ≡ x
cond_same true x = refl
cond_same false x = refl

-- the first of two values that is there
pub or_none : {A : Type 0} (x : Option A) → option_or x None ≡ x
or_none None = refl
or_none (Some x) = refl

pub both_none : {A : Type 0} (x y : Option A) → option_or x y ≡ None → (x ≡ None) × (y ≡ None)
both_none None y e = (refl, e)
both_none (Some x) y e = absurd cc

pub either_some : {A : Type 0} (x y : Option A) (z : A) → option_or x y ≡ Some z → (x ≡ Some z) ⊎ ((x ≡ None) × (y ≡ Some z))
either_some None y z e = inr (refl, e)
either_some (Some x) y z e = inl e

pub first_stays : {A : Type 0} (x y : Option A) (z : A) → x ≡ Some z → option_or x y ≡ Some z
first_stays None y z e = absurd cc
first_stays (Some x) y z e = e
