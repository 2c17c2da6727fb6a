-- Reading decimal numbers, and bytes in hexadecimal.
use Rattle.std.specs.Prelude.{ℕ, ◌+◌, ◌-◌, ◌*◌, ◌^◌, Bool, true, false, ◌&&◌, not, ◌==◌, nat_le, nat_lt, List, [], ◌∷◌, ◌++◌, length, Option, Some, None, codes, bytes_eq, if◌then◌else◌}
use Rattle.std.specs.List.{list_all, fold}
use Rattle.rs_base.specs.Reading.{◌>>=◌}

abbrev pub is_digit : ℕ → Bool
is_digit b = nat_le 48 b && nat_le b 57

abbrev pub are_digits : List ℕ → Bool
are_digits digits = list_all is_digit digits

abbrev pub begins_with_no_zero : List ℕ → Bool
begins_with_no_zero [] = false
begins_with_no_zero (b ∷ []) = true
begins_with_no_zero (b ∷ c ∷ digits) = not (b == 48)

abbrev pub is_numeral : List ℕ → Bool
is_numeral digits = nat_le (length digits) 20 && begins_with_no_zero digits && are_digits digits

abbrev pub digits_value : List ℕ → ℕ
digits_value digits = fold (λ n digit. 10 * n + (digit - 48)) 0 digits

-- a number below 2 ^ 64
unfoldable pub number_of : List ℕ → Option ℕ
number_of digits = if is_numeral digits && nat_lt (digits_value digits) (2 ^ 64) then Some (digits_value digits) else None

abbrev pub hex_value : ℕ → Option ℕ
hex_value b = if nat_le 48 b && nat_le b 57 then Some (b - 48) else (if nat_le 97 b && nat_le b 102 then Some (b - 87) else None)

-- the byte of two hexadecimal digits
abbrev pub hex_pair : ℕ → ℕ → Option ℕ
hex_pair a b = hex_value a >>= λ high. hex_value b >>= λ low. Some (16 * high + low)

-- two digits for each byte
abbrev pub bytes_of_hex : List ℕ → Option (List ℕ)
bytes_of_hex [] = Some []
bytes_of_hex (a ∷ []) = None
bytes_of_hex (a ∷ b ∷ digits) = hex_pair a b >>= λ byte. bytes_of_hex digits >>= λ bytes. Some (byte ∷ bytes)

unfoldable pub noise_of : List ℕ → Option (List ℕ)
noise_of [] = None
noise_of (b ∷ digits) = if bytes_eq (b ∷ digits) (codes "-") then Some [] else bytes_of_hex (b ∷ digits)

-- bytes prepended to those still to be read
abbrev pub with_bytes : List ℕ → Option (List ℕ) → Option (List ℕ)
with_bytes prefix read = read >>= λ bytes. Some (prefix ++ bytes)
