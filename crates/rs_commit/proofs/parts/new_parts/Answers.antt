use Rattle.rs_commit.specs.Play.{new_part}
use Rattle.rs_commit.proofs.Ranges.{next_value}
use Rattle.rs_commit.proofs.parts.new_parts.Goals as goal

pub loop-number-preserved : goal.loop-number-preserved
loop-number-preserved c =
    next_value (λ number. new_part) c.loop-number._number c.loop-number.made.items c.push.new.self.items c.new.result c.loop-number.invariant c.new.ensures c.in_ok-push.ensures.items
