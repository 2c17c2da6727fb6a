-- Integers of 64 bits, by the test and as the machine has them.
use Rattle.std.proofs.Common.{◌<◌, ◌≤◌, ◌^◌, ℤ, pos, negsuc, Option, Some, None, IsTrue, SomeIff, FitsSigned, w64, leb, sym, ◌∙◌, arith, leb-true}
use Rattle.std.proofs.lemmas.Bool.{le-leb}
use Rattle.std.proofs.Math.Bool.{and-true}
use Rattle.rs_base.specs.Integers.{is_i64}

pub fits_from_test : (z : ℤ) → IsTrue (is_i64 z) → FitsSigned w64 z
unfolding is_i64
fits_from_test (pos n) t = let below : n ≤ 9223372036854775807 = leb-true n 9223372036854775807 t in record { sfits = omega arith }
fits_from_test (negsuc n) t =
    let below : n ≤ 9223372036854775807 = leb-true n 9223372036854775807 (sym (and-true (leb n 9223372036854775807)) ∙ t) in record { sfits = omega arith }

pub test_from_fits : (z : ℤ) → FitsSigned w64 z → IsTrue (is_i64 z)
unfolding is_i64
test_from_fits (pos n) f = let below : n < 2 ^ 63 = f.sfits in le-leb n 9223372036854775807 (omega arith)
test_from_fits (negsuc n) f =
    let below : n < 2 ^ 63 = f.sfits in and-true (leb n 9223372036854775807) ∙ le-leb n 9223372036854775807 (omega arith)

-- what checked arithmetic says, by the test
pub checked : (found : Option ℤ) (z : ℤ) → SomeIff found (FitsSigned w64 z) z → SomeIff found (IsTrue (is_i64 z)) z
checked None z none = λ t. none (fits_from_test z t)
checked (Some x) z some = (test_from_fits z some.0, some.1)
