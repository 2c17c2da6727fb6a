-- What each change of one lock keeps, the locks have after every list of calls.
use Rattle.std.proofs.Common.{◌≡◌, true, false, not, cond, List, [], ◌∷◌, length, map, Option, Some, None, All, refl, sym, subst}
use Rattle.std.specs.Prelude.{◌==◌, unwrap_or}
use Rattle.std.specs.BTreeMap.{is_at}
use Rattle.std.specs.List.{list_any}
use Rattle.std.specs.Map.{lookup, values_of, remove_entry}
use Rattle.std.specs.Option.{IfSome}
use Rattle.std.proofs.lemmas.Bool.{and_parts, or_parts, not-true, eqb-true}
use Rattle.std.proofs.lemmas.List.{nil_from_length}
use Rattle.std.proofs.lemmas.List.Elements.{All-nil, All-cons}
use Rattle.std.proofs.lemmas.Map.Views.{All-values-insert_entry, All-map-remove_entry, IfSome-lookup_from_All}
use Rattle.rs_base.specs.declared.lock.Mode.{Mode}
use Rattle.rs_base.specs.declared.lock.Resource.{Resource}
use Rattle.rs_base.specs.declared.txn.Enlist.{Enlist}
use Rattle.rs_base.specs.Orders.{resource_cmp}
use Rattle.rs_lock.specs.declared.claim.Claim.{Claim}
use Rattle.rs_lock.specs.declared.verdict.Verdict.{Verdict}
use Rattle.rs_lock.specs.declared.verdict.Verdict.TheVariants as verdicts
use Rattle.rs_lock.specs.declared.wait.Wait.{Wait}
use Rattle.rs_lock.specs.Calls.{lock_of, part_of, is_waiting, ask_by, hold, grant, end_wait, end_waits, release_at, release_each, left, age, end_first, ended_by, holder_of}
use Rattle.rs_lock.specs.Claims.{has, is_refused, is_covered}
use Rattle.rs_lock.specs.Courses.{Call, Ask, Hold, Release, Tick, may_come, called, step, run, after}
use Rattle.rs_lock.specs.Lock.{Lock, unlocked, is_free, verdict, enqueued, released, dequeued}
use Rattle.rs_lock.specs.Waits.{first_over}
use Rattle.rs_lock.specs.Locks.{Locks, Table, no_locks, lock_in, with_lock, left_lock, taken_in, with_dequeued, released_in}

pub record Keeps (P : Lock → Type 0) : Type 0 where
  pub base : P unlocked
  pub on_take : (claim : Claim) (lock : Lock) → verdict claim lock ≡ verdicts.Free → P lock → P (taken_in claim lock)
  pub on_hold : (claim : Claim) (lock : Lock) → is_refused claim lock.holders ≡ false → lock.queue ≡ [] → P lock → P (taken_in claim lock)
  pub on_wait : (claim : Claim) (lock : Lock) (holder : Enlist) → verdict claim lock ≡ verdicts.Blocked holder → has claim.who lock.queue ≡ false → P lock → P (enqueued claim lock)
  pub on_release : (who : Enlist) (lock : Lock) → P lock → P (released who lock []).0
  pub on_end : (who : Enlist) (lock : Lock) → P lock → P (dequeued who lock)

-- ---- all locks of a table

abbrev pub Each : (Lock → Type 0) → Table → Type 0
Each P table = All P (values_of table)

if_stored : (P : Lock → Type 0) → P unlocked → (found : Option Lock) → IfSome found P → P (unwrap_or found unlocked)
if_stored P base None h = base
if_stored P base (Some lock) h = h

pub each_at : (P : Lock → Type 0) → P unlocked → (what : Resource) (table : Table) → Each P table → P (lock_in what table)
each_at P base what table each =
    if_stored P base (lookup (is_at (resource_cmp what)) table) (IfSome-lookup_from_All P (is_at (resource_cmp what)) table each)

pub each_with : (P : Lock → Type 0) (what : Resource) (lock : Lock) (table : Table) → Each P table → P lock → Each P (with_lock what lock table)
each_with P what lock table each here = All-values-insert_entry resource_cmp what lock P table each here

pub each_left : (P : Lock → Type 0) (what : Resource) (lock : Lock) (table : Table) → Each P table → P lock → Each P (left_lock what lock table)
each_left P what lock table each here =
    elim (is_free lock) as (λ b. Each P (cond b (remove_entry (is_at (resource_cmp what)) table) (with_lock what lock table))) [
      | true ↦ All-map-remove_entry (is_at (resource_cmp what)) (λ (e : Resource × Lock). e.1) P table each
      | false ↦ each_with P what lock table each here
    ]

-- an enlistment that doesn't wait stands in no queue
none_queued : (who : Enlist) (table : Table) → list_any (λ (e : Resource × Lock). has who e.1.queue) table ≡ false → Each (λ lock. has who lock.queue ≡ false) table
none_queued who [] none = All-nil (λ (lock : Lock). has who lock.queue ≡ false)
none_queued who (e ∷ es) none =
    let parts = or_parts (has who e.1.queue) (list_any (λ (e : Resource × Lock). has who e.1.queue) es) none in
    All-cons (λ (lock : Lock). has who lock.queue ≡ false) e.1 (map (λ (e : Resource × Lock). e.1) es) parts.0 (none_queued who es parts.1)

pub not_queued : (who : Enlist) (what : Resource) (locks : Locks) → is_waiting who locks ≡ false → has who (lock_of what locks).queue ≡ false
not_queued who what locks none = each_at (λ lock. has who lock.queue ≡ false) refl what locks.table (none_queued who locks.table none)

-- ---- the calls

pub end_waits_table : (what : Resource) (granted : List Enlist) (locks : Locks) → (end_waits what granted locks).table ≡ locks.table
end_waits_table what [] locks = refl
end_waits_table what (who ∷ more) locks = end_waits_table what more (end_wait what who locks)

module _ {P : Lock → Type 0} (k : Keeps P) where
  at : (what : Resource) (table : Table) → Each P table → P (lock_in what table)
  at what table each = each_at P k.base what table each

  each_ask_by : (what : Resource) (claim : Claim) (locks : Locks) → has claim.who (lock_of what locks).queue ≡ false → Each P locks.table → (v : Verdict) → verdict claim (lock_of what locks) ≡ v
      → Each P (ask_by v what claim locks).1.table
  each_ask_by what claim locks none each verdicts.Covered e = each
  each_ask_by what claim locks none each verdicts.Free e =
      each_with P what (taken_in claim (lock_of what locks)) locks.table each (k.on_take claim (lock_of what locks) e (at what locks.table each))
  each_ask_by what claim locks none each (verdicts.Blocked holder) e =
      each_with P what (enqueued claim (lock_of what locks)) locks.table each (k.on_wait claim (lock_of what locks) holder e none (at what locks.table each))

  each_hold : (who : Enlist) (what : Resource) (mode : Mode) (locks : Locks) → is_refused (record { who = who; mode = mode }) (lock_of what locks).holders ≡ false → (lock_of what locks).queue ≡ []
      → Each P locks.table → Each P (hold who what mode locks).table
  each_hold who what mode locks free empty each =
      let claim : Claim = record { who = who; mode = mode } in
      elim (is_covered claim (lock_of what locks).holders) as (λ b. Each P (cond b locks (grant what claim locks)).table) [
        | true ↦ each
        | false ↦ each_with P what (taken_in claim (lock_of what locks)) locks.table each (k.on_hold claim (lock_of what locks) free empty (at what locks.table each))
      ]

  each_release_each : (who : Enlist) (asks : List Resource) (locks : Locks) (before : List Enlist) → Each P locks.table → Each P (release_each who asks locks before).0.table
  each_release_each who [] locks before each = each
  each_release_each who (what ∷ more) locks before each =
      let out = released_in who what locks.table in
      let here : Each P out.0 = each_left P what (released who (lock_of what locks) []).0 locks.table each (k.on_release who (lock_of what locks) (at what locks.table each)) in
      let next = release_at who what locks before in
      each_release_each who more next.0 next.1 (subst (Each P) (sym (end_waits_table what out.1 (record locks { table = out.0 }))) here)

  each_dequeued : (what : Resource) (who : Enlist) (table : Table) → Each P table → (found : Option Lock) → IfSome found P → Each P (with_dequeued what who found table)
  each_dequeued what who table each None h = each
  each_dequeued what who table each (Some lock) h = each_with P what (dequeued who lock) table each (k.on_end who lock h)

  each_ended : (wait : Wait) (locks : Locks) → Each P locks.table → (holder : Option Enlist) → Each P (ended_by wait holder locks).1.table
  each_ended wait locks each None = each
  each_ended wait locks each (Some holder) =
      each_dequeued wait.what wait.who locks.table each (lookup (is_at (resource_cmp wait.what)) locks.table) (IfSome-lookup_from_All P (is_at (resource_cmp wait.what)) locks.table each)

  each_first : (locks : Locks) → Each P locks.table → (first : Option Wait) → Each P (end_first first locks).1.table
  each_first locks each None = each
  each_first locks each (Some wait) = each_ended wait locks each (holder_of wait.what wait.who locks)

  pub each_called : (call : Call) (locks : Locks) → may_come call locks ≡ true → Each P locks.table → Each P (called call locks).table
  each_called (Ask who what mode) locks may each =
      let claim : Claim = record { who = who; mode = mode } in
      each_ask_by what claim locks (not_queued who what locks (not-true (is_waiting who locks) may)) each (verdict claim (lock_of what locks)) refl
  each_called (Hold who what mode) locks may each =
      let claim : Claim = record { who = who; mode = mode } in
      let parts = and_parts (not (is_refused claim (lock_of what locks).holders)) (length (lock_of what locks).queue == 0) may in
      each_hold who what mode locks (not-true (is_refused claim (lock_of what locks).holders) parts.0) (nil_from_length (lock_of what locks).queue (eqb-true (length (lock_of what locks).queue) 0 parts.1)) each
  each_called (Release who) locks may each = each_release_each who (part_of who locks).asks (left who locks) [] each
  each_called Tick locks may each = each_first (age locks) each (first_over (age locks).waits)

  each_step : (call : Call) (locks : Locks) → Each P locks.table → Each P (step call locks).table
  each_step call locks each =
      elim (may_come call locks) as (λ b. may_come call locks ≡ b → Each P (cond b (called call locks) locks).table)
      [ true ↦ λ h. each_called call locks h each | false ↦ λ h. each ] refl

  each_run : (calls : List Call) (locks : Locks) → Each P locks.table → Each P (run calls locks).table
  each_run [] locks each = each
  each_run (call ∷ more) locks each = each_run more (step call locks) (each_step call locks each)

  pub kept : (calls : List Call) (what : Resource) → P (lock_of what (after calls))
  kept calls what = at what (after calls).table (each_run calls no_locks (All-nil P))
