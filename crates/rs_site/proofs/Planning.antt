-- Choices of plans, by their tests.
use Rattle.std.proofs.Common.{◌≡◌, Bool, true, false, refl}
use Rattle.rs_site.specs.Planned.{Planned, when}

pub when_true : (test : Bool) (new old : Planned) → test ≡ true → when test new old ≡ new
unfolding when
when_true true new old is = refl
when_true false new old is = absurd cc

pub when_false : (test : Bool) (new old : Planned) → test ≡ false → when test new old ≡ old
unfolding when
when_false true new old is = absurd cc
when_false false new old is = refl

-- whatever holds of both plans holds of the choice
pub by_when : (P : Planned → Type 0) (test : Bool) (new old : Planned) → (test ≡ true → P new) → (test ≡ false → P old) → P (when test new old)
unfolding when
by_when P true new old holds fails = holds refl
by_when P false new old holds fails = fails refl
