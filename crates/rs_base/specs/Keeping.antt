-- What an appending call leaves of the bytes that were there.
use Rattle.std.specs.Prelude.{◌≡◌, ℕ, List, length, take}

-- The old bytes are a prefix of the new.
pub record Keeps (old new : List ℕ) : Type 0 where
  pub first : take (length old) new ≡ old
