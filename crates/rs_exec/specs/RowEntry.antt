-- What a borrowed row with its number is seen as.
use Rattle.std.specs.Prelude.{ℕ, List}
use Rattle.rs_base.specs.declared.value.Value.{Value}

-- a row number, and the values of the row
abbrev pub RowEntry : Type 0
RowEntry = ℕ × List Value
