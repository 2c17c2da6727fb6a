-- What contracts see of an index.
use Rattle.std.specs.Prelude.{ℕ, List}
use Rattle.rs_base.specs.declared.value.Value.{Value}

-- its column, and its pairs of a value and a row number, rising by value and then by number
pub record Index : Type 0 where
  pub column : ℕ
  pub pairs : List (Value × ℕ)
