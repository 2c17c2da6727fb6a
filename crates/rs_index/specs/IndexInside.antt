-- The fields of an index: its integers and its texts apart, since each integer is below each text.
use Rattle.std.specs.Prelude.{ℕ, ◌<◌, ◌^◌, ℤ, List, ◌++◌, map, All}
use Rattle.rs_base.specs.declared.value.Value.{Value}
use Rattle.rs_base.specs.declared.value.Value.TheVariants.{Int, Text}
use Rattle.rs_index.specs.Index.{Index}
use Rattle.rs_index.specs.declared.index.Index.TheInside.{Inside}

abbrev pub int_pair : ℤ × ℕ → Value × ℕ
int_pair pair = (Int pair.0, pair.1)

abbrev pub text_pair : List ℕ × ℕ → Value × ℕ
text_pair pair = (Text pair.0, pair.1)

abbrev pub index_of : Inside → Index
index_of a = record { column = a.column; pairs = map int_pair a.ints.keys ++ map text_pair a.texts }

-- row numbers have 64 bits
abbrev pub IsKept : Inside → Type 0
IsKept a = All (λ pair. pair.1 < 2 ^ 64) a.ints.keys
