-- Which integers are of 64 bits.
use Rattle.std.proofs.Common.{◌≡◌, ℤ, pos, negsuc, true, false, arith, w64}
use Rattle.std.specs.Int.RustNames.{FitsSigned}
use Rattle.std.proofs.lemmas.Bool.Decides.{nat_tests}
use Rattle.std.proofs.lemmas.Bool.{false_from_ne_true}
use Rattle.rs_base.specs.Integers.{is_i64}

pub is_i64_from_fits : (z : ℤ) → FitsSigned w64 z → is_i64 z ≡ true
unfolding is_i64
is_i64_from_fits (pos n) fits = grind (arith, nat_tests)
is_i64_from_fits (negsuc n) fits = grind (arith, nat_tests)

fits_from_is_i64 : (z : ℤ) → is_i64 z ≡ true → FitsSigned w64 z
unfolding is_i64
fits_from_is_i64 (pos n) is = record { sfits = grind (arith, nat_tests) }
fits_from_is_i64 (negsuc n) is = record { sfits = grind (arith, nat_tests) }

pub not_i64 : (z : ℤ) → (FitsSigned w64 z → ⊥) → is_i64 z ≡ false
not_i64 z h = false_from_ne_true (is_i64 z) (λ e. h (fits_from_is_i64 z e))
