-- The field that begins the bytes, with the bytes after it:
--     byte_at, u32_at, u64_at, count_at, int_at, text_at
-- None if no such field begins them.
use Rattle.std.specs.Prelude.{ℕ, ◌+◌, ◌-◌, ◌*◌, ◌/◌, ◌%◌, ◌^◌, ◌==◌, ℤ, pos, negsuc, nat_le, nat_lt, List, [], ◌∷◌, length, take, drop, Option, Some, None, bytes_eq, if◌then◌else◌}
use Rattle.std.specs.Int.{w32, w64, to_be_bytes, from_be_bytes}
use Rattle.rs_base.specs.Reading.{◌>>=◌}

abbrev pub byte_at : List ℕ → Option (ℕ × List ℕ)
byte_at [] = None
byte_at (b ∷ bytes) = if nat_lt b 256 then Some (b, bytes) else None

-- the number, if the bytes are its encoding
abbrev pub if_encoded : List ℕ → List ℕ → ℕ → List ℕ → Option (ℕ × List ℕ)
if_encoded bytes encoding n rest = if bytes_eq bytes encoding then Some (n, rest) else None

-- four big-endian bytes
unfoldable pub u32_at : List ℕ → Option (ℕ × List ℕ)
u32_at bytes = let n = from_be_bytes w32 (take 4 bytes) % 2 ^ 32 in if_encoded (take 4 bytes) (to_be_bytes w32 n) n (drop 4 bytes)

-- eight big-endian bytes
unfoldable pub u64_at : List ℕ → Option (ℕ × List ℕ)
u64_at bytes = let n = from_be_bytes w64 (take 8 bytes) % 2 ^ 64 in if_encoded (take 8 bytes) (to_be_bytes w64 n) n (drop 8 bytes)

-- a first group with the higher groups, whose number isn't 0
abbrev pub above_group : ℕ → ℕ × List ℕ → Option (ℕ × List ℕ)
above_group b high = if high.0 == 0 then None else Some (b - 128 + 128 * high.0, high.1)

-- groups of seven bits, the lowest first
abbrev pub groups_at : List ℕ → Option (ℕ × List ℕ)
groups_at [] = None
groups_at (b ∷ bytes) = if nat_lt b 128 then Some (b, bytes) else (if nat_lt b 256 then groups_at bytes >>= above_group b else None)

unfoldable pub count_at : List ℕ → Option (ℕ × List ℕ)
count_at bytes = groups_at bytes >>= λ found. if nat_lt found.0 (2 ^ 64) then Some found else None

-- the integer at a position of 0, -1, 1, -2, 2 and so on
abbrev pub int_of : ℕ → ℤ
int_of count = if count % 2 == 0 then pos (count / 2) else negsuc (count / 2)

abbrev pub int_at : List ℕ → Option (ℤ × List ℕ)
int_at bytes = count_at bytes >>= λ count. Some (int_of count.0, count.1)

-- a count, then as many bytes
unfoldable pub text_at : List ℕ → Option (List ℕ × List ℕ)
text_at bytes = do
  count ← count_at bytes
  if nat_le count.0 (length count.1) then Some (take count.0 count.1, drop count.0 count.1) else None

-- the bytes after the text that begins these
abbrev pub suffix_text : List ℕ → Option (List ℕ)
suffix_text bytes = text_at bytes >>= λ text. Some text.1
