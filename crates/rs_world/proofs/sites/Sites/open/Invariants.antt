use Rattle.std.proofs.Common.{◌≡◌, map}
use Rattle.std.specs.List.{range_with_len}
use Rattle.rs_site.specs.State.{opened}
use Rattle.rs_world.proofs.sites.Sites.open.Given as goal

abbrev pub invariant-loop-before : goal.invariant-loop-before
invariant-loop-before l = l.sites.items ≡ map (λ me. opened me l.fn.last) (range_with_len 1 l.before)
