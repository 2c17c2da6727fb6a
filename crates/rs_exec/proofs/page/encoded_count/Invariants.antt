use Rattle.std.proofs.Common.{◌≡◌, ◌-◌, ◌+◌}
use Rattle.rs_base.specs.Sizes.{groups_within}
use Rattle.rs_exec.proofs.page.encoded_count.Given as goal

abbrev pub invariant-loop-size : goal.invariant-loop-size
invariant-loop-size l = l.size + groups_within (10 - l.size) l.rest ≡ 1 + groups_within 9 l.n
