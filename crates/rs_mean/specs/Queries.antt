-- Bound statements that are queries.
use Rattle.rs_plan.specs.declared.bound.Bound.{Bound}
use Rattle.rs_plan.specs.declared.bound.Bound.TheVariants as bounds

abbrev pub IsSelect : Bound → Type 0
IsSelect (bounds.Select names aliases widths clauses shape) = Unit {0}
IsSelect (bounds.Insert name rows) = ⊥
IsSelect (bounds.Update name sets clauses) = ⊥
IsSelect (bounds.Delete name clauses) = ⊥
