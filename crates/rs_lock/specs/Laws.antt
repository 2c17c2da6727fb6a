-- Laws of locks, over every list of calls.
use Rattle.std.specs.Prelude.{◌≡◌, ◌⊎◌, Bool, true, false, ◌&&◌, ◌||◌, not, List, [], ◌∷◌, length, Some, None, if◌then◌else◌}
use Rattle.std.specs.List.{list_all, list_any}
use Rattle.std.specs.Ordering.{is_eq}
use Rattle.rs_base.specs.declared.lock.Resource.{Resource}
use Rattle.rs_base.specs.declared.txn.Enlist.{Enlist}
use Rattle.rs_lock.specs.declared.answer.Ended.{Ended}
use Rattle.rs_lock.specs.declared.claim.Claim.{Claim}
use Rattle.rs_base.specs.Orders.{resource_cmp}
use Rattle.rs_lock.specs.declared.wait.Wait.{Wait}
use Rattle.rs_lock.specs.Calls.{lock_of, part_of, is_waiting, age, release, tick}
use Rattle.rs_lock.specs.Claims.{is_write, same, is_by, has, other_than}
use Rattle.rs_lock.specs.Courses.{Call, Ask, Hold, Release, Tick, may_come, called, after, lock_after}
use Rattle.rs_lock.specs.Lock.{Lock, has_to_wait, released, next_grant}
use Rattle.rs_lock.specs.Locks.{Locks}
use Rattle.rs_lock.specs.Resources as resources
use Rattle.rs_lock.specs.Waits.{waits_for, has_wait, first_over}

-- ---- every list of calls

-- a list of calls leads to these locks
abbrev pub IsReached : Locks → Type 0
IsReached locks = (calls : List Call) × (locks ≡ after calls)

-- a call that may come leads on
abbrev pub ReachedMore : Type 0
ReachedMore = (locks : Locks) (call : Call) → IsReached locks → may_come call locks ≡ true
    → IsReached (called call locks)

-- ---- one writer alone, or any number of readers

abbrev pub is_reader : Claim → Bool
is_reader claim = not (is_write claim.mode)

abbrev pub IsOneOrReaders : List Claim → Type 0
IsOneOrReaders holders = (list_all is_reader holders ≡ true) ⊎ (length holders ≡ 1)

-- at every moment all holders of a resource read, or there is one holder alone
abbrev pub OneWriterOrReaders : Type 0
OneWriterOrReaders = (calls : List Call) (what : Resource)
    → IsOneOrReaders (lock_after calls what).holders

-- the call is the release of this enlistment
abbrev pub releases : Enlist → Call → Bool
releases who (Ask other what mode) = false
releases who (Hold other what mode) = false
releases who (Release other) = same other who
releases who Tick = false

-- a holder holds the resource until its release
abbrev pub HoldersStay : Type 0
HoldersStay = (calls : List Call) (call : Call) (who : Enlist) (what : Resource)
    → releases who call ≡ false
    → has who (lock_after calls what).holders ≡ true
    → has who (lock_of what (called call (after calls))).holders ≡ true

-- no enlistment has two of these claims
abbrev pub each_once : List Claim → Bool
each_once [] = true
each_once (claim ∷ claims) = not (has claim.who claims) && each_once claims

-- at every moment no enlistment holds a resource twice
abbrev pub HeldOnce : Type 0
HeldOnce = (calls : List Call) (what : Resource) → each_once (lock_after calls what).holders ≡ true

-- ---- the queue

-- once a claim of the queue is of no holder, all after it are of none
abbrev pub upgrades_by : (Enlist → Bool) → List Claim → Bool
upgrades_by holds [] = true
upgrades_by holds (claim ∷ queue) =
    if holds claim.who then upgrades_by holds queue
    else list_all (λ later. not (holds later.who)) queue

abbrev pub upgrades_first : Lock → Bool
upgrades_first lock = upgrades_by (λ who. has who lock.holders) lock.queue

-- at every moment the upgrades of a resource stand before all other claims of its queue
abbrev pub UpgradesFirst : Type 0
UpgradesFirst = (calls : List Call) (what : Resource) → upgrades_first (lock_after calls what) ≡ true

-- at every moment no enlistment stands in a queue twice
abbrev pub QueuedOnce : Type 0
QueuedOnce = (calls : List Call) (what : Resource) → each_once (lock_after calls what).queue ≡ true

-- a wait of the enlistment for the resource is counted
abbrev pub is_counted : Enlist → Resource → List Wait → Bool
is_counted who what waits =
    list_any (λ wait. waits_for who wait && is_eq (resource_cmp what wait.what)) waits

-- at every moment each enlistment that stands in a queue has a wait for the resource, which ticks count
abbrev pub QueuedIsCounted : Type 0
QueuedIsCounted = (calls : List Call) (who : Enlist) (what : Resource)
    → has who (lock_after calls what).queue ≡ true
    → is_counted who what (after calls).waits ≡ true

-- at every moment each wait that ticks count stands in the queue of its resource
abbrev pub CountedIsQueued : Type 0
CountedIsQueued = (calls : List Call)
    → list_all (λ wait. has wait.who (lock_of wait.what (after calls)).queue) (after calls).waits ≡ true

abbrev pub waits_once : List Wait → Bool
waits_once [] = true
waits_once (wait ∷ waits) = not (list_any (waits_for wait.who) waits) && waits_once waits

-- at every moment no enlistment has two waits
abbrev pub WaitsOnce : Type 0
WaitsOnce = (calls : List Call) → waits_once (after calls).waits ≡ true

-- at every moment an enlistment has a wait exactly if it stands in a queue
abbrev pub WaitingAgrees : Type 0
WaitingAgrees = (calls : List Call) (who : Enlist)
    → is_waiting who (after calls) ≡ has_wait who (after calls).waits

-- one of the claims is another enlistment's
abbrev pub has_other : Enlist → List Claim → Bool
has_other who claims = list_any (λ claim. not (is_by who claim)) claims

-- at every moment each enlistment that waits for a resource waits for a holder other than itself
abbrev pub BlockedByHolder : Type 0
BlockedByHolder = (calls : List Call) (what : Resource)
    → list_all (λ queued. has_other queued.who (lock_after calls what).holders)
    (lock_after calls what).queue ≡ true

-- at every moment there is a holder to name to an ask that has to wait
abbrev pub WaitsForHolder : Type 0
WaitsForHolder = (calls : List Call) (what : Resource) (claim : Claim)
    → has_to_wait claim (lock_after calls what) ≡ true
    → other_than claim.who (lock_after calls what).holders ≡ None → ⊥

-- ---- a release

-- the enlistment holds the resource or waits for it
abbrev pub has_claim : Enlist → Lock → Bool
has_claim who lock = has who lock.holders || has who lock.queue

-- at every moment an enlistment holds and waits for only what it asked for
abbrev pub AskedFor : Type 0
AskedFor = (calls : List Call) (who : Enlist) (what : Resource)
    → has_claim who (lock_after calls what) ≡ true
    → resources.has what (part_of who (after calls)).asks ≡ true

-- after its release an enlistment holds nothing and waits for nothing
abbrev pub LeavesNothing : Type 0
LeavesNothing = (calls : List Call) (who : Enlist) (what : Resource)
    → has_claim who (lock_of what (release who (after calls)).0) ≡ true → ⊥

-- where an enlistment left, the queue is empty or its first claim conflicts with another holder
abbrev pub GrantsWhileItCan : Type 0
GrantsWhileItCan = (who : Enlist) (lock : Lock) (before : List Enlist)
    → let left : Lock = (released who lock before).0 in next_grant left.holders left.queue ≡ None

-- ---- a tick

-- the holder that is named holds the resource then, and isn't the one who waited
pub record IsHolder (ended : Ended) (locks : Locks) : Type 0 where
  pub holds : has ended.holder (lock_of ended.what locks).holders ≡ true
  pub other : same ended.who ended.holder ≡ false

abbrev pub NamesHolder : Type 0
NamesHolder = (locks : Locks) (ended : Ended) → (tick locks).0 ≡ Some ended → IsHolder ended locks

-- a tick that ends no wait leaves none that has counted enough ticks
abbrev pub WaitsEnd : Type 0
WaitsEnd = (calls : List Call) → (tick (after calls)).0 ≡ None
    → first_over (age (after calls)).waits ≡ None
