-- The laws of locks.
use Rattle.std.proofs.Common.{◌≡◌, Option, Some, None, [], refl, inl, subst}
use Rattle.rs_base.specs.declared.txn.Enlist.{Enlist}
use Rattle.rs_lock.specs.declared.answer.Ended.{Ended}
use Rattle.rs_lock.specs.declared.wait.Wait.{Wait}
use Rattle.rs_lock.specs.Calls.{lock_of, age, end_first, ended_by, holder_of}
use Rattle.rs_lock.specs.Claims.{without}
use Rattle.rs_lock.specs.Courses.{after}
use Rattle.rs_lock.specs.Laws.{IsOneOrReaders, OneWriterOrReaders, UpgradesFirst, QueuedOnce, BlockedByHolder, WaitsForHolder, IsHolder, NamesHolder}
use Rattle.rs_lock.specs.Locks.{Locks}
use Rattle.rs_lock.specs.Waits.{first_over}
use Rattle.rs_lock.proofs.Fitting.{granted_fits, left_fits, settled_fits}
use Rattle.rs_lock.proofs.Kept.{Keeps, kept}
use Rattle.rs_lock.proofs.Queues.{IsSound, taken_sound, taken_empty, enqueued_sound, released_sound, dequeued_sound, waits_for_holder}
use Rattle.rs_lock.proofs.Verdicts.{free_unrefused, found_other}

fitting : Keeps (λ lock. IsOneOrReaders lock.holders)
fitting = record {
  base = inl refl;
  on_take = λ claim lock free fits. granted_fits claim lock.holders (free_unrefused claim lock free);
  on_hold = λ claim lock free empty fits. granted_fits claim lock.holders free;
  on_wait = λ claim lock holder blocked none fits. fits;
  on_release = λ who lock fits. settled_fits (without who lock.holders) (without who lock.queue) [] (left_fits who lock.holders fits);
  on_end = λ who lock fits. fits;
}

pub one_writer_or_readers : OneWriterOrReaders
one_writer_or_readers calls what = kept fitting calls what

pub sound : Keeps IsSound
sound = record {
  base = record { once = refl; first = refl; blocked = refl };
  on_take = taken_sound;
  on_hold = λ claim lock free empty before. taken_empty claim lock empty;
  on_wait = enqueued_sound;
  on_release = released_sound;
  on_end = dequeued_sound;
}

pub upgrades_first : UpgradesFirst
upgrades_first calls what = (kept sound calls what).first

pub queued_once : QueuedOnce
queued_once calls what = (kept sound calls what).once

pub blocked_by_holder : BlockedByHolder
blocked_by_holder calls what = (kept sound calls what).blocked

pub asks_of_holder : WaitsForHolder
asks_of_holder calls what claim waits none =
    let lock = lock_of what (after calls) in
    waits_for_holder claim lock.holders lock.queue (kept sound calls what).blocked waits none

module _ (locks : Locks) (ended : Ended) where
  some_is : {A : Type 0} {x y : A} → Some x ≡ Some y → x ≡ y
  some_is e = cc

  by_holder : (wait : Wait) (found : Option Enlist) → holder_of wait.what wait.who locks ≡ found → (ended_by wait found (age locks)).0 ≡ Some ended → IsHolder ended locks
  by_holder wait None here e = cc
  by_holder wait (Some holder) here e =
      let says = found_other wait.who (lock_of wait.what locks).holders holder here in
      let Claim : Ended → Type 0 = λ ended. IsHolder ended locks in
      subst Claim (some_is e) (record { holds = says.0; other = says.1 })

  by_first : (first : Option Wait) → (end_first first (age locks)).0 ≡ Some ended → IsHolder ended locks
  by_first None e = cc
  by_first (Some wait) e = by_holder wait (holder_of wait.what wait.who locks) refl e

pub names_holder : NamesHolder
names_holder locks ended e = by_first locks ended (first_over (age locks).waits) e
