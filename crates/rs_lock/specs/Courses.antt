-- Lists of calls, and what becomes of the locks.
use Rattle.std.specs.Prelude.{Bool, true, not, List, [], ◌∷◌, if◌then◌else◌}
use Rattle.rs_base.specs.declared.lock.Mode.{Mode}
use Rattle.rs_base.specs.declared.lock.Resource.{Resource}
use Rattle.rs_base.specs.declared.txn.Enlist.{Enlist}
use Rattle.rs_lock.specs.Calls.{lock_of, is_waiting, may_hold, ask, hold, release, tick}
use Rattle.rs_lock.specs.Lock.{Lock}
use Rattle.rs_lock.specs.Locks.{Locks, no_locks}

-- the calls that change the locks
pub data Call : Type 0 where
  Ask : Enlist → Resource → Mode → Call
  Hold : Enlist → Resource → Mode → Call
  Release : Enlist → Call
  Tick : Call

-- An enlistment that waits doesn't ask. A hold comes where no other holder conflicts and nobody waits.
abbrev pub may_come : Call → Locks → Bool
may_come (Ask who what mode) locks = not (is_waiting who locks)
may_come (Hold who what mode) locks = may_hold who what mode locks
may_come (Release who) locks = true
may_come Tick locks = true

abbrev pub called : Call → Locks → Locks
called (Ask who what mode) locks = (ask who what mode locks).1
called (Hold who what mode) locks = hold who what mode locks
called (Release who) locks = (release who locks).0
called Tick locks = (tick locks).1

-- a call that may not come is left out
abbrev pub step : Call → Locks → Locks
step call locks = if may_come call locks then called call locks else locks

abbrev pub run : List Call → Locks → Locks
run [] locks = locks
run (call ∷ more) locks = run more (step call locks)

-- the locks of a site after these calls
abbrev pub after : List Call → Locks
after calls = run calls no_locks

-- the locks of a resource after these calls
abbrev pub lock_after : List Call → Resource → Lock
lock_after calls what = lock_of what (after calls)
