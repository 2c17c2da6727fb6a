use Rattle.std.proofs.Common.{◌≡◌, drop}
use Rattle.rs_lock.specs.Calls.{end_waits}
use Rattle.rs_lock.proofs.locks.Locks.end_waits.Given as goal

abbrev pub invariant-loop-who : goal.invariant-loop-who
invariant-loop-who l = end_waits l.what (drop l.who-index l.granted) l.self ≡ end_waits l.what l.granted l.initial.self
