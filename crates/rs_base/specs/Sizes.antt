-- The encoded size of a value: numbers in groups of seven bits, texts after their length.
use Rattle.std.specs.Prelude.{ℕ, zero, suc, ◌+◌, ◌*◌, ◌/◌, nat_lt, ℤ, pos, negsuc, List, length, sum_by, if◌then◌else◌}
use Rattle.rs_base.specs.declared.value.Value.{Value}
use Rattle.rs_base.specs.declared.value.Value.TheVariants.{Int, Text}

-- the zigzag number: 0, -1, 1, -2, 2 .. are 0, 1, 2, 3, 4 ..; negsuc n is -n - 1
abbrev pub count_of : ℤ → ℕ
count_of (pos n) = 2 * n
count_of (negsuc n) = 2 * n + 1

-- how many groups of seven bits a number takes, with at most this number above the first
abbrev pub groups_within : ℕ → ℕ → ℕ
groups_within zero n = 1
groups_within (suc more) n = if nat_lt n 128 then 1 else 1 + groups_within more (n / 128)

-- ten groups hold each number below 2 ^ 64
unfoldable pub count_size : ℕ → ℕ
count_size n = groups_within 9 n

-- a byte for the kind, and then the value
abbrev pub value_size : Value → ℕ
value_size (Int z) = 1 + count_size (count_of z)
value_size (Text text) = 1 + count_size (length text) + length text

abbrev pub row_size : List Value → ℕ
row_size row = sum_by value_size row
