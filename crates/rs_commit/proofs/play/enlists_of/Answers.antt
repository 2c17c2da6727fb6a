use Rattle.rs_commit.specs.Play.{enlist_of}
use Rattle.rs_commit.proofs.Ranges.{next_value}
use Rattle.rs_commit.proofs.play.enlists_of.Goals as goal

pub loop-number-preserved : goal.loop-number-preserved
loop-number-preserved c =
    next_value enlist_of c.loop-number.number c.loop-number.enlists c.push.new.self c.enlist_of.result c.loop-number.invariant c.enlist_of.ensures c.in_ok-push.ensures.ok
