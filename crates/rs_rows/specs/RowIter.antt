-- What an iterator over the rows of a table gives.
use Rattle.std.specs.Prelude.{ℕ, List}
use Rattle.rs_base.specs.declared.value.Value.{Value}
use denote.Ref.{Bor}

-- a row number, and the row that a reference points to
abbrev pub shown : ℕ × Bor (List Value) → ℕ × List Value
shown entry = (entry.0, entry.1.now)
