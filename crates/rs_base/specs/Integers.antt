-- Integers of 64 bits, and the integers that values are.
use Rattle.std.specs.Prelude.{Bool, ◌&&◌, ℤ, pos, negsuc, int_le}
use Rattle.rs_base.specs.declared.value.Value.{Value}
use Rattle.rs_base.specs.declared.value.Value.TheVariants as values

-- from -2 ^ 63 to 2 ^ 63 - 1
unfoldable pub is_i64 : ℤ → Bool
is_i64 z = int_le (negsuc 9223372036854775807) z && int_le z (pos 9223372036854775807)

-- the integer that a value is; 0 for a text
abbrev pub integer_of : Value → ℤ
integer_of (values.Int z) = z
integer_of (values.Text text) = pos 0
