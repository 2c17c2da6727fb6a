-- Laws of aggregates.
use Rattle.std.specs.Prelude.{◌≡◌, false, List, Some, All, Contains}
use Rattle.std.specs.List.Sorted.{IsPermutation}
use Rattle.std.specs.Ordering.{is_gt}
use Rattle.rs_base.specs.declared.value.Value.{Value}
use Rattle.rs_base.specs.Value.{value_cmp}
use Rattle.rs_answer.specs.Items.{sum_of, least_of, greatest_of}

-- the least of values is one of them, and isn't above any
abbrev pub LeastIsLeast : Type 0
LeastIsLeast = (given : List Value) (least : Value) → least_of given ≡ Some least
    → Contains given least × All (λ value. is_gt (value_cmp least value) ≡ false) given

-- the greatest of values is one of them, and none is above it
abbrev pub GreatestIsGreatest : Type 0
GreatestIsGreatest = (given : List Value) (greatest : Value) → greatest_of given ≡ Some greatest
    → Contains given greatest × All (λ value. is_gt (value_cmp value greatest) ≡ false) given

-- the sum of values is the same in any order
abbrev pub SumIsOfAnyOrder : Type 0
SumIsOfAnyOrder = (given others : List Value) → IsPermutation given others → sum_of given ≡ sum_of others
