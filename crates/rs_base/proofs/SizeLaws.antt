-- The number of groups of seven bits that a number takes, step by step.
use Rattle.std.proofs.Common.{◌≡◌, ℕ, zero, suc, ◌+◌, ◌-◌, ◌/◌, ◌<◌, ◌≤◌, refl, ap, ◌∙◌, arith}
use Rattle.std.proofs.lemmas.Bool.{lt-ltb, le-ltb}
use Rattle.rs_base.specs.Sizes.{groups_within}

-- a number below 128 takes one
pub groups_last : (more n : ℕ) → n < 128 → groups_within more n ≡ 1
groups_last zero n h = refl
groups_last (suc more) n h = rw (lt-ltb n 128 h) refl

-- another takes one more than what is above its lowest seven bits
pub groups_more : (more n : ℕ) → 128 ≤ n → groups_within (suc more) n ≡ 1 + groups_within more (n / 128)
groups_more more n h = rw (le-ltb n 128 h) refl

-- a turn of the loop that counts them
pub counts_more : (at n all : ℕ) → at < 10 → 128 ≤ n → at + groups_within (10 - at) n ≡ 1 + all → at + 1 + groups_within (10 - (at + 1)) (n / 128) ≡ 1 + all
counts_more at n all within large so_far =
    let room : 10 - at ≡ suc (10 - (at + 1)) = omega arith in
    let one : groups_within (10 - at) n ≡ 1 + groups_within (10 - (at + 1)) (n / 128) = ap (λ (more : ℕ). groups_within more n) room ∙ groups_more (10 - (at + 1)) n large in
    omega (arith, one, so_far)
