-- The encoding of each field, as a function of its value:
--     count_bytes n, int_bytes z, text_bytes text
use Rattle.std.specs.Prelude.{ℕ, zero, suc, ◌+◌, ◌/◌, ◌%◌, ℤ, nat_lt, List, [], ◌∷◌, ◌++◌, length, if◌then◌else◌}
use Rattle.rs_codec.specs.Encoding.{count_of}

-- the groups of a number: the first, and at most this many more
abbrev pub groups_bytes : ℕ → ℕ → List ℕ
groups_bytes zero n = n ∷ []
groups_bytes (suc more) n = if nat_lt n 128 then n ∷ [] else (128 + n % 128) ∷ groups_bytes more (n / 128)

-- a number below 2 ^ 64, in one to ten bytes
unfoldable pub count_bytes : ℕ → List ℕ
count_bytes n = groups_bytes 9 n

-- an integer of 64 bits, in one to ten bytes
abbrev pub int_bytes : ℤ → List ℕ
int_bytes z = count_bytes (count_of z)

-- the count of the text's bytes, then the bytes
abbrev pub text_bytes : List ℕ → List ℕ
text_bytes text = count_bytes (length text) ++ text
