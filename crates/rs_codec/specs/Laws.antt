-- Properties of a kind of encoding.
use Rattle.std.specs.Prelude.{◌≡◌, ◌↔◌, ℕ, ◌<◌, List, ◌++◌, Option, Some, All}
use Rattle.rs_codec.specs.Encoding.{Takes}

-- Encodings are unique and prefix-free: of two that begin the same bytes, both encoding and value are the same.
abbrev pub HasOneEncoding : {X : Type 0} → (List ℕ → X → Type 0) → Type 0
HasOneEncoding {X} IsX = (a b r s : List ℕ) (x y : X) → IsX a x → IsX b y → a ++ r ≡ b ++ s → (a ≡ b) × (x ≡ y)

-- Each value in range has an encoding.
abbrev pub IsEncoded : {X : Type 0} → (List ℕ → X → Type 0) → (X → Type 0) → Type 0
IsEncoded {X} IsX InRange = (x : X) → InRange x → (bytes : List ℕ) × IsX bytes x

-- Each number of the list is a byte.
abbrev pub AreBytes : List ℕ → Type 0
AreBytes bytes = All (λ b. b < 256) bytes

-- A value has no second encoding.
abbrev pub IsEncodedOnce : {X : Type 0} → (List ℕ → X → Type 0) → Type 0
IsEncodedOnce {X} IsX = (a b : List ℕ) (x : X) → IsX a x → IsX b x → a ≡ b

-- The function gives an encoding of each value in range.
abbrev pub IsWrittenBy : {X : Type 0} → (List ℕ → X → Type 0) → (X → Type 0) → (X → List ℕ) → Type 0
IsWrittenBy {X} IsX InRange x_bytes = (x : X) → InRange x → IsX (x_bytes x) x

-- The function reads a value exactly if its encoding begins the bytes, whatever follows it.
abbrev pub IsReadBy : {X : Type 0} → (List ℕ → X → Type 0) → (List ℕ → Option (X × List ℕ)) → Type 0
IsReadBy {X} IsX x_at = (bytes rest : List ℕ) (x : X) → Takes IsX bytes rest x ↔ (x_at bytes ≡ Some (x, rest))
