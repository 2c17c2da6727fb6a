-- Which orders of two values satisfy a comparison.
use Rattle.std.specs.Prelude.{Bool}
use Rattle.std.specs.Ordering.{is_eq, is_ne, is_lt, is_le, is_gt, is_ge}
use Rattle.std.specs.declared.cmp.Ordering.{Ordering}
use Rattle.rs_ast.specs.declared.clause.Op.{Op}
use Rattle.rs_ast.specs.declared.clause.Op.TheVariants as ops

-- two values in this order satisfy the comparison
abbrev pub allows : Op → Ordering → Bool
allows ops.Eq order = is_eq order
allows ops.Ne order = is_ne order
allows ops.Lt order = is_lt order
allows ops.Le order = is_le order
allows ops.Gt order = is_gt order
allows ops.Ge order = is_ge order
