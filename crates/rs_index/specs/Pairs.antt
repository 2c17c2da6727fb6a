-- The pairs of an index, a value and a row number each, in their order: what changes them, and what a range gives.
use Rattle.std.specs.Prelude.{ℕ, Bool, List, [], map, filter, filter_map, fold, Option, slice_get}
use Rattle.std.specs.List.{list_any}
use Rattle.std.specs.Option.{option_map}
use Rattle.std.specs.Ordering.{nat_cmp, ordering_then}
use Rattle.std.specs.declared.cmp.Ordering.{Ordering}
use Rattle.std.specs.BTreeMap.{is_at}
use Rattle.std.specs.BTreeSet.{insert_key}
use Rattle.std.specs.Set.{remove_key}
use Rattle.rs_base.specs.declared.value.Value.{Value}
use Rattle.rs_base.specs.Value.{value_cmp}
use Rattle.rs_ast.specs.Allows.{allows}
use Rattle.rs_ast.specs.declared.clause.Op.{Op}

-- by value, and then by number
abbrev pub pair_cmp : Value × ℕ → Value × ℕ → Ordering
pair_cmp one other = ordering_then (value_cmp one.0 other.0) (nat_cmp one.1 other.1)

-- ---- changes

-- the pairs with this one at its place in the order, if it isn't there
abbrev pub added : Value × ℕ → List (Value × ℕ) → List (Value × ℕ)
added pair pairs = insert_key pair_cmp pairs pair

-- the pairs without this one
abbrev pub dropped : Value × ℕ → List (Value × ℕ) → List (Value × ℕ)
dropped pair pairs = remove_key (is_at (pair_cmp pair)) pairs

-- whether this pair is there
abbrev pub has : Value × ℕ → List (Value × ℕ) → Bool
has pair pairs = list_any (is_at (pair_cmp pair)) pairs

-- ---- what a range gives

-- the row numbers whose value satisfies the comparison, in the order of the pairs
abbrev pub range_of : Op → Value → List (Value × ℕ) → List ℕ
range_of op value pairs = map (λ pair. pair.1) (filter (λ pair. allows op (value_cmp pair.0 value)) pairs)

-- ---- the pairs of a table

-- the row's value in this column, if it has one, with the row's number
abbrev pub pair_of : ℕ → ℕ × List Value → Option (Value × ℕ)
pair_of column entry = option_map (λ value. (value, entry.0)) (slice_get entry.1 column)

-- the pairs of the rows, each at its place in the order
abbrev pub pairs_of : ℕ → List (ℕ × List Value) → List (Value × ℕ)
pairs_of column rows = fold (λ pairs pair. added pair pairs) [] (filter_map (pair_of column) rows)
