use Rattle.std.proofs.Common.{◌≡◌, map, take, length}
use Rattle.rs_scope.specs.Scope.{as_u16}
use Rattle.rs_bind_query.proofs.queries.widths_of.Given as goal

abbrev pub invariant-loop-heading : goal.invariant-loop-heading
invariant-loop-heading l = l.widths ≡ map (λ heading. as_u16 (length heading.columns)) (take l.heading-index l.headings)
