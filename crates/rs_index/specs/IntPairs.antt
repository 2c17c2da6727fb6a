-- The row numbers of integers: the order of their pairs.
use Rattle.std.specs.Prelude.{ℕ, ℤ}
use Rattle.std.specs.Ordering.{int_cmp, nat_cmp, ordering_then}
use Rattle.std.specs.declared.cmp.Ordering.{Ordering}

-- by integer, and then by number
abbrev pub int_pair_cmp : ℤ × ℕ → ℤ × ℕ → Ordering
int_pair_cmp one other = ordering_then (int_cmp one.0 other.0) (nat_cmp one.1 other.1)
