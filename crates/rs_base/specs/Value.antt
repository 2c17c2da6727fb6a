-- The kind of a value, and the order of values and rows.
use Rattle.std.specs.Prelude.{List}
use Rattle.std.specs.Ordering.{int_cmp, nat_cmp}
use Rattle.std.specs.Cmp.Lexicographic.{slice_cmp}
use Rattle.std.specs.declared.cmp.Ordering.{Ordering}
use Rattle.std.specs.declared.cmp.Ordering.TheVariants.{Less, Greater}
use Rattle.rs_base.specs.declared.value.Value.{Value}
use Rattle.rs_base.specs.declared.value.Value.TheVariants.{Int, Text}
use Rattle.rs_base.specs.declared.value.Kind.{Kind}
use Rattle.rs_base.specs.declared.value.Kind.TheVariants as kinds

-- rows, each a list of values
abbrev pub RowList : Type 0
RowList = List (List Value)

abbrev pub kind_of : Value → Kind
kind_of (Int n) = kinds.Int
kind_of (Text t) = kinds.Text

-- integers by value, texts by bytes, each integer below each text
abbrev pub value_cmp : Value → Value → Ordering
value_cmp (Int m) (Int n) = int_cmp m n
value_cmp (Int m) (Text t) = Less
value_cmp (Text s) (Int n) = Greater
value_cmp (Text s) (Text t) = slice_cmp nat_cmp s t

-- rows by their first values that differ
abbrev pub row_cmp : List Value → List Value → Ordering
row_cmp = slice_cmp value_cmp
