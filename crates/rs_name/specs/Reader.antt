-- The system-wide name whose text the bytes are, or None: split at its separators, then read part by part.
use Rattle.std.specs.Prelude.{ℕ, ◌+◌, ◌-◌, Bool, ◌&&◌, not, ◌==◌, nat_le, List, [], ◌∷◌, take, drop, Option, Some, None, if◌then◌else◌}
use Rattle.std.specs.List.{prefix_len}
use Rattle.rs_base.specs.Ident.{is_ident}
use Rattle.rs_base.specs.Reading.{◌>>=◌}
use Rattle.rs_base.specs.declared.name.Swn.{Swn}

-- ---- sites

abbrev pub digit_of : ℕ → Option ℕ
digit_of b = if nat_le 48 b && nat_le b 57 then Some (b - 48) else None

-- a digit, or a 1 and a digit
abbrev pub number_of : List ℕ → Option ℕ
number_of [] = None
number_of (units ∷ []) = digit_of units
number_of (tens ∷ units ∷ []) = if tens == 49 then (digit_of units >>= λ n. Some (10 + n)) else None
number_of (hundreds ∷ tens ∷ units ∷ digits) = None

-- a number from 1 to 16
unfoldable pub site_of : List ℕ → Option ℕ
site_of digits = number_of digits >>= λ n. if nat_le 1 n && nat_le n 16 then Some n else None

-- ---- parts

abbrev pub is_before : ℕ → ℕ → Bool
is_before separator b = not (b == separator)

abbrev pub suffix : List ℕ → List ℕ → Option (List ℕ × List ℕ)
suffix prefix [] = None
suffix prefix (b ∷ rest) = Some (prefix, rest)

-- the bytes before the first separator, and the bytes after it
unfoldable pub separated : ℕ → List ℕ → Option (List ℕ × List ℕ)
separated separator bytes = suffix (take (prefix_len (is_before separator) bytes) bytes) (drop (prefix_len (is_before separator) bytes) bytes)

abbrev pub ident_of : List ℕ → Option (List ℕ)
ident_of bytes = if is_ident bytes then Some bytes else None

-- `identifier@site`
unfoldable pub ident_at_site : List ℕ → Option (List ℕ × ℕ)
ident_at_site bytes = do
  parts ← separated 64 bytes
  ident ← ident_of parts.0
  site ← site_of parts.1
  Some (ident, site)

-- ---- names

-- the creator and the object, separated by `.`
unfoldable pub swn_of : List ℕ → Option Swn
swn_of bytes = do
  parts ← separated 46 bytes
  creator ← ident_at_site parts.0
  object ← ident_at_site parts.1
  Some (record { creator = creator.0; creator_site = creator.1; object = object.0; birth = object.1 })
