use Rattle.std.proofs.Common.{◌≡◌, length}
use Rattle.rs_lock.specs.Lock.{settled}
use Rattle.rs_lock.proofs.lock.Lock.settle.Given as goal

abbrev pub invariant-loop-claim : goal.invariant-loop-claim
invariant-loop-claim l = settled l.self.holders l.self.queue l.granted ≡ settled l.initial.self.holders l.initial.self.queue l.initial.granted

abbrev pub decreases-loop-claim : goal.decreases-loop-claim
decreases-loop-claim l = length l.self.queue
