-- What each call does, and what it answers.
use Rattle.std.specs.Prelude.{◌≡◌, Bool, List, [], ◌∷◌, ◌++◌, map, Option, Some, None, if◌then◌else◌}
use Rattle.std.specs.List.{list_any}
use Rattle.std.specs.Option.{option_map}
use Rattle.rs_base.specs.declared.lock.Mode.{Mode}
use Rattle.rs_base.specs.declared.lock.Resource.{Resource}
use Rattle.rs_base.specs.declared.txn.Enlist.{Enlist}
use Rattle.rs_lock.specs.declared.answer.Asked.{Asked}
use Rattle.rs_lock.specs.declared.answer.Asked.TheVariants as answers
use Rattle.rs_lock.specs.declared.answer.Ended.{Ended}
use Rattle.rs_lock.specs.declared.claim.Claim.{Claim}
use Rattle.rs_lock.specs.declared.verdict.Verdict.{Verdict}
use Rattle.rs_lock.specs.declared.verdict.Verdict.TheVariants as verdicts
use Rattle.rs_lock.specs.declared.wait.Wait.{Wait}
use Rattle.rs_lock.specs.Claims.{has, mode_of, other_than, is_covered}
use Rattle.rs_lock.specs.Lock as lock_rules
use Rattle.rs_lock.specs.Lock.{Lock, verdict, enqueued}
use Rattle.rs_lock.specs.Locks.{Locks, lock_in, with_lock, taken_in, dequeued_in, released_in}
use Rattle.rs_lock.specs.declared.part.Part.{Part}
use Rattle.rs_lock.specs.Parts.{asked, given, part_in, with_part, without_part}
use Rattle.rs_lock.specs.Waits.{aged, first_over, without_wait}

abbrev pub lock_of : Resource → Locks → Lock
lock_of what locks = lock_in what locks.table

abbrev pub part_of : Enlist → Locks → Part
part_of who locks = part_in who locks.parts

-- the enlistment stands in the queue of a resource
abbrev pub is_waiting : Enlist → Locks → Bool
is_waiting who locks = list_any (λ entry. has who entry.1.queue) locks.table

-- the same locks and waits; what enlistments asked for may differ
abbrev pub SameLocks : Locks → Locks → Type 0
SameLocks one other = (other.table ≡ one.table) × (other.waits ≡ one.waits)

-- ---- ask and hold

-- the enlistment asked for this resource
abbrev pub note_ask : Enlist → Resource → Locks → Locks
note_ask who what locks = record locks { parts = with_part who (asked what (part_of who locks)) locks.parts }

-- the enlistment was granted this resource
abbrev pub note_grant : Enlist → Resource → Locks → Locks
note_grant who what locks = record locks { parts = with_part who (given what (part_of who locks)) locks.parts }

-- the claim holds the resource
abbrev pub take_lock : Resource → Claim → Locks → Locks
take_lock what claim locks = record locks { table = with_lock what (taken_in claim (lock_of what locks)) locks.table }

-- the claim waits for the resource
abbrev pub wait_for : Resource → Claim → Locks → Locks
wait_for what claim locks = record locks {
  table = with_lock what (enqueued claim (lock_of what locks)) locks.table;
  waits = locks.waits ++ (record { who = claim.who; what = what; ticks = 0 }) ∷ [];
}

-- an ask that is granted
abbrev pub grant : Resource → Claim → Locks → Locks
grant what claim locks = take_lock what claim (note_grant claim.who what (note_ask claim.who what locks))

-- an ask that waits
abbrev pub enqueue : Resource → Claim → Locks → Locks
enqueue what claim locks = wait_for what claim (note_ask claim.who what locks)

abbrev pub ask_by : Verdict → Resource → Claim → Locks → Asked × Locks
ask_by verdicts.Covered what claim locks = (answers.Granted, locks)
ask_by verdicts.Free what claim locks = (answers.Granted, grant what claim locks)
ask_by (verdicts.Blocked holder) what claim locks = (answers.Waiting holder, enqueue what claim locks)

abbrev pub ask : Enlist → Resource → Mode → Locks → Asked × Locks
ask who what mode locks =
    let claim : Claim = record { who = who; mode = mode } in
    ask_by (verdict claim (lock_of what locks)) what claim locks

-- no other holder conflicts, and nobody waits
abbrev pub may_hold : Enlist → Resource → Mode → Locks → Bool
may_hold who what mode locks = lock_rules.may_hold (record { who = who; mode = mode }) (lock_of what locks)

-- a lock that an enlistment held before a restart
abbrev pub hold : Enlist → Resource → Mode → Locks → Locks
hold who what mode locks =
    let claim : Claim = record { who = who; mode = mode } in
    if is_covered claim (lock_of what locks).holders then locks else grant what claim locks

-- ---- release

-- the wait of this enlistment ended with the lock
abbrev pub end_wait : Resource → Enlist → Locks → Locks
end_wait what who locks = note_grant who what (record locks { waits = without_wait who locks.waits })

abbrev pub end_waits : Resource → List Enlist → Locks → Locks
end_waits what [] locks = locks
end_waits what (who ∷ more) locks = end_waits what more (end_wait what who locks)

-- the enlistment leaves this resource; with the enlistments that were granted before, and those that are granted there
abbrev pub release_at : Enlist → Resource → Locks → List Enlist → Locks × List Enlist
release_at who what locks before =
    let after = released_in who what locks.table in
    (end_waits what after.1 (record locks { table = after.0 }), before ++ after.1)

abbrev pub release_each : Enlist → List Resource → Locks → List Enlist → Locks × List Enlist
release_each who [] locks before = (locks, before)
release_each who (what ∷ more) locks before =
    let after = release_at who what locks before in
    release_each who more after.0 after.1

-- the enlistment waits no more, and its part is gone
abbrev pub left : Enlist → Locks → Locks
left who locks = record locks { parts = without_part who locks.parts; waits = without_wait who locks.waits }

-- The enlistment waits no more and leaves, resource by resource in the order in which it first asked for them.
abbrev pub release : Enlist → Locks → Locks × List Enlist
release who locks = release_each who (part_of who locks).asks (left who locks) []

-- ---- tick

abbrev pub age : Locks → Locks
age locks = record locks { waits = map aged locks.waits }

-- the enlistment no longer waits for the resource
abbrev pub give_up : Wait → Locks → Locks
give_up wait locks = record locks {
  table = dequeued_in wait.what wait.who locks.table;
  waits = without_wait wait.who locks.waits;
}

-- the first holder other than this enlistment
abbrev pub holder_of : Resource → Enlist → Locks → Option Enlist
holder_of what but locks = other_than but (lock_of what locks).holders

-- with what the wait ends
abbrev pub ended_by : Wait → Option Enlist → Locks → Option Ended × Locks
ended_by wait None locks = (None, locks)
ended_by wait (Some holder) locks = (Some (record { who = wait.who; what = wait.what; holder = holder }), give_up wait locks)

abbrev pub end_first : Option Wait → Locks → Option Ended × Locks
end_first None locks = (None, locks)
end_first (Some wait) locks = ended_by wait (holder_of wait.what wait.who locks) locks

-- Each wait is one tick older. Then the wait ends that began first of those that waited long enough.
abbrev pub tick : Locks → Option Ended × Locks
tick locks = end_first (first_over (age locks).waits) (age locks)

-- ---- held

abbrev pub held_at : Enlist → Locks → Resource → Option (Resource × Mode)
held_at who locks what = option_map (λ mode. (what, mode)) (mode_of who (lock_of what locks).holders)

abbrev pub as_list : {T : Type 0} → Option T → List T
as_list None = []
as_list (Some x) = x ∷ []

-- of these resources those that the enlistment holds, with their modes
abbrev pub held_of : Enlist → Locks → List Resource → List (Resource × Mode)
held_of who locks [] = []
held_of who locks (what ∷ more) = as_list (held_at who locks what) ++ held_of who locks more

-- what the enlistment holds with its mode now, in the order of first granting
abbrev pub held : Enlist → Locks → List (Resource × Mode)
held who locks = held_of who locks (part_of who locks).grants
