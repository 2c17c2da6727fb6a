-- The encodings of fields. A byte is itself, and a number of four or eight bytes is big-endian (`to_be_bytes` of std):
--     IsByte bytes n        a number below 256
--     IsU32 bytes n         a number below 2 ^ 32
--     IsU64 bytes n         a number below 2 ^ 64
-- The others:
--     IsCount bytes n       a number below 2 ^ 64, in the fewest groups of seven bits
--     IsInt bytes z         an integer of 64 bits
--     IsText bytes text     a text of any bytes
-- and what is done with an encoding:
--     Puts IsX old new x    new is old followed by an encoding of x
--     Takes IsX old new x   old is an encoding of x followed by new
--     NoneBegins IsX old    no encoding is a prefix of old
use Rattle.std.specs.Prelude.{◌≡◌, ℕ, ◌+◌, ◌*◌, ◌^◌, ◌<◌, ◌≤◌, ℤ, List, [], ◌∷◌, ◌++◌, length}
use Rattle.std.specs.Int.{w32, w64, to_be_bytes}
pub use Rattle.rs_base.specs.Sizes.{count_of}

abbrev pub IsByte : List ℕ → ℕ → Type 0
IsByte bytes n = (n < 256) × (bytes ≡ n ∷ [])

abbrev pub IsU32 : List ℕ → ℕ → Type 0
IsU32 bytes n = (n < 2 ^ 32) × (bytes ≡ to_be_bytes w32 n)

abbrev pub IsU64 : List ℕ → ℕ → Type 0
IsU64 bytes n = (n < 2 ^ 64) × (bytes ≡ to_be_bytes w64 n)

-- A number in groups of seven bits, the lowest first. A byte below 128 is the last group, and is its own value. A byte
-- from 128 on holds the low seven bits, and the bytes after it encode the higher bits, which aren't 0.
abbrev pub IsGroups : List ℕ → ℕ → Type 0
IsGroups [] n = ⊥
IsGroups (b ∷ []) n = (b < 128) × (n ≡ b)
IsGroups (b ∷ c ∷ bs) n = (128 ≤ b) × (b < 256) × (high : ℕ) × (0 < high) × (n + 128 ≡ b + 128 * high) × IsGroups (c ∷ bs) high

pub record IsCount (bytes : List ℕ) (n : ℕ) : Type 0 where
  pub groups : IsGroups bytes n
  pub below : n < 2 ^ 64

-- an integer is encoded as its count: 0, -1, 1, -2, 2 .. as 0, 1, 2, 3, 4 ..
abbrev pub IsInt : List ℕ → ℤ → Type 0
IsInt bytes z = IsCount bytes (count_of z)

-- the count of the text's bytes, then the bytes
pub record IsText (bytes text : List ℕ) : Type 0 where
  pub count : List ℕ
  pub counted : IsCount count (length text)
  pub parts : bytes ≡ count ++ text

pub record Puts {X : Type 0} (IsX : List ℕ → X → Type 0) (old new : List ℕ) (x : X) : Type 0 where
  pub encoding : List ℕ
  pub encoded : IsX encoding x
  pub parts : new ≡ old ++ encoding

pub record Takes {X : Type 0} (IsX : List ℕ → X → Type 0) (old new : List ℕ) (x : X) : Type 0 where
  pub encoding : List ℕ
  pub encoded : IsX encoding x
  pub parts : old ≡ encoding ++ new

abbrev pub NoneBegins : {X : Type 0} → (List ℕ → X → Type 0) → List ℕ → Type 0
NoneBegins {X} IsX old = (x : X) (encoding rest : List ℕ) → IsX encoding x → old ≡ encoding ++ rest → ⊥
