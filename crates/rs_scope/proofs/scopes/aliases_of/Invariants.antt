use Rattle.std.proofs.Common.{◌≡◌, map}
use Rattle.rs_scope.specs.Scope.{alias_of}
use Rattle.rs_scope.proofs.scopes.aliases_of.Given as goal

abbrev pub invariant-loop-table : goal.invariant-loop-table
invariant-loop-table l = l.aliases ≡ map (λ both. alias_of both.0.now both.1.now) l.yielded
