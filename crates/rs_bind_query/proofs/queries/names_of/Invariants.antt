use Rattle.std.proofs.Common.{◌≡◌, map, take}
use Rattle.rs_bind_query.proofs.queries.names_of.Given as goal

abbrev pub invariant-loop-heading : goal.invariant-loop-heading
invariant-loop-heading l = l.names ≡ map (λ heading. heading.name) (take l.heading-index l.headings)
