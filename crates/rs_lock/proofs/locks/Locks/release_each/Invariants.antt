use Rattle.std.proofs.Common.{◌≡◌, drop}
use Rattle.rs_lock.specs.Calls.{release_each}
use Rattle.rs_lock.proofs.locks.Locks.release_each.Given as goal

abbrev pub invariant-loop-what : goal.invariant-loop-what
invariant-loop-what l = release_each l.who (drop l.what-index l.asks) l.self l.granted ≡ release_each l.who l.asks l.initial.self l.initial.granted
