-- The bounds of a range among keys in order.
use Rattle.std.specs.declared.ops.Bound.{Bound}
use Rattle.std.specs.declared.ops.Bound.TheVariants.{Included, Excluded, Unbounded}
use Rattle.rs_ast.specs.declared.clause.Op.{Op}
use Rattle.rs_ast.specs.declared.clause.Op.TheVariants as ops

-- the bounds of the keys that satisfy the comparison with the keys from `first` to `last`; `<>` has none
abbrev pub bounds_of : {K : Type 0} → Op → K → K → Bound K × Bound K
bounds_of ops.Eq first last = (Included first, Included last)
bounds_of ops.Ne first last = (Unbounded, Unbounded)
bounds_of ops.Lt first last = (Unbounded, Excluded first)
bounds_of ops.Le first last = (Unbounded, Included last)
bounds_of ops.Gt first last = (Excluded last, Unbounded)
bounds_of ops.Ge first last = (Included first, Unbounded)
