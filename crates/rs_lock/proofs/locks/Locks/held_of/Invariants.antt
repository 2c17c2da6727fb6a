use Rattle.std.proofs.Common.{◌≡◌, ◌++◌, drop}
use Rattle.rs_lock.specs.Calls.{held_of}
use Rattle.rs_lock.proofs.locks.Locks.held_of.Given as goal

abbrev pub invariant-loop-what : goal.invariant-loop-what
invariant-loop-what l = l.held ++ held_of l.who l.self (drop l.what-index l.grants) ≡ held_of l.who l.self l.grants
