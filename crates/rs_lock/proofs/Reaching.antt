-- Locks that a list of calls reaches, and holders that stay until their release.
use Rattle.std.proofs.Common.{◌≡◌, Bool, true, false, cond, List, [], ◌∷◌, ◌++◌, Option, Some, None, refl, sym, ap, ◌∙◌, ⊎_elim, subst}
use Rattle.std.specs.Prelude.{unwrap_or}
use Rattle.std.specs.BTreeMap.{is_at}
use Rattle.std.specs.Map.{lookup}
use Rattle.rs_base.specs.declared.lock.Resource.{Resource}
use Rattle.rs_base.specs.declared.txn.Enlist.{Enlist}
use Rattle.rs_base.specs.Orders.{resource_cmp}
use Rattle.rs_lock.specs.declared.claim.Claim.{Claim}
use Rattle.rs_lock.specs.declared.verdict.Verdict.{Verdict}
use Rattle.rs_lock.specs.declared.verdict.Verdict.TheVariants as verdicts
use Rattle.rs_lock.specs.declared.wait.Wait.{Wait}
use Rattle.rs_lock.specs.Calls.{lock_of, part_of, grant, ask_by, release_at, release_each, left, age, end_first, ended_by, holder_of}
use Rattle.rs_lock.specs.Claims.{same, has, without, is_refused, is_covered}
use Rattle.rs_lock.specs.Courses.{Call, Ask, Hold, Release, Tick, called, step, run, after}
use Rattle.rs_lock.specs.Laws.{releases, HoldersStay, ReachedMore, CountedIsQueued}
use Rattle.rs_lock.specs.Lock.{Lock, unlocked, verdict, granted, enqueued, settled, released, dequeued}
use Rattle.rs_lock.specs.Locks.{Locks, Table, no_locks, lock_in, with_lock, left_lock, taken_in, with_dequeued, released_in}
use Rattle.rs_lock.specs.Waits.{first_over}
use Rattle.rs_lock.proofs.Covering.{left_at}
use Rattle.rs_lock.proofs.Kept.{end_waits_table}
use Rattle.rs_lock.proofs.Queues.{same_is, has_granted, has_granted_self, has_without_other}
use Rattle.rs_lock.proofs.Waiting.{IsSorted, same_or_apart, lock_put, lock_beside, left_beside, sorted_left, waits_kept}

-- ---- reached

run_more : (calls : List Call) (call : Call) (locks : Locks) → run (calls ++ call ∷ []) locks ≡ step call (run calls locks)
run_more [] call locks = refl
run_more (first ∷ calls) call locks = run_more calls call (step first locks)

pub reached_more : ReachedMore
reached_more locks call reached may =
    let calls : List Call = reached.0 in (
      calls ++ call ∷ [],
      sym (ap (λ b. cond b (called call locks) locks) may) ∙ ap (step call) reached.1 ∙ sym (run_more calls call no_locks),
    )

pub counted_is_queued : CountedIsQueued
counted_is_queued calls = (waits_kept calls).queued

-- ---- holders

abbrev Holds : Enlist → Lock → Type 0
Holds q lock = has q lock.holders ≡ true

granted_holds : (c : Claim) (holders : List Claim) (q : Enlist) → has q holders ≡ true → has q (granted c holders) ≡ true
granted_holds c holders q holds = by_test (same c.who q) refl
  where
    by_test : (b : Bool) → same c.who q ≡ b → has q (granted c holders) ≡ true
    by_test true e = ap (λ w. has w (granted c holders)) (sym (same_is c.who q e)) ∙ has_granted_self c holders
    by_test false e = has_granted c holders q e ∙ holds

settled_holds : (holders queue : List Claim) (before : List Enlist) (q : Enlist) → has q holders ≡ true → Holds q (settled holders queue before).0
settled_holds holders [] before q holds = holds
settled_holds holders (c ∷ queue) before q holds =
    let out : Bool → Lock × List Enlist = λ b. cond b (record { holders = holders; queue = c ∷ queue }, before) (settled (granted c holders) queue (before ++ c.who ∷ [])) in
    elim (is_refused c holders) as (λ b. Holds q (out b).0) [ true ↦ holds | false ↦ settled_holds (granted c holders) queue (before ++ c.who ∷ []) q (granted_holds c holders q holds) ]

-- a lock changed at a resource whose holders stay
with_holds : (what : Resource) (lock : Lock) (table : Table) (q : Enlist) → (Holds q (lock_in what table) → Holds q lock) → (r : Resource) → Holds q (lock_in r table) → Holds q (lock_in r (with_lock what lock table))
with_holds what lock table q stays r holds =
    ⊎_elim
    (λ is. ap (λ s. has q (lock_in s (with_lock what lock table)).holders) is ∙ ap (λ (l : Lock). has q l.holders) (lock_put what lock table) ∙ stays (ap (λ s. has q (lock_in s table).holders) (sym is) ∙ holds))
    (λ apart. ap (λ (l : Lock). has q l.holders) (lock_beside what lock table r apart) ∙ holds)
    (same_or_apart r what)

grant_holds : (what : Resource) (claim : Claim) (locks : Locks) (q : Enlist) (r : Resource) → Holds q (lock_of r locks) → Holds q (lock_of r (grant what claim locks))
grant_holds what claim locks q r holds =
    with_holds what (taken_in claim (lock_of what locks)) locks.table q (λ before. granted_holds claim (lock_of what locks).holders q before) r holds

ask_holds : (v : Verdict) (what : Resource) (claim : Claim) (locks : Locks) (q : Enlist) (r : Resource) → Holds q (lock_of r locks) → Holds q (lock_of r (ask_by v what claim locks).1)
ask_holds verdicts.Covered what claim locks q r holds = holds
ask_holds verdicts.Free what claim locks q r holds = grant_holds what claim locks q r holds
ask_holds (verdicts.Blocked holder) what claim locks q r holds = with_holds what (enqueued claim (lock_of what locks)) locks.table q (λ before. before) r holds

dequeued_holds : (what : Resource) (who : Enlist) (table : Table) (found : Option Lock) → lookup (is_at (resource_cmp what)) table ≡ found → (q : Enlist) (r : Resource) → Holds q (lock_in r table)
    → Holds q (lock_in r (with_dequeued what who found table))
dequeued_holds what who table None is q r holds = holds
dequeued_holds what who table (Some lock) is q r holds =
    with_holds what (dequeued who lock) table q (λ before. sym (ap (λ there. has q (unwrap_or there unlocked).holders) is) ∙ before) r holds

ended_holds : (wait : Wait) (locks : Locks) (holder : Option Enlist) (q : Enlist) (r : Resource) → Holds q (lock_of r locks) → Holds q (lock_of r (ended_by wait holder locks).1)
ended_holds wait locks None q r holds = holds
ended_holds wait locks (Some holder) q r holds = dequeued_holds wait.what wait.who locks.table (lookup (is_at (resource_cmp wait.what)) locks.table) refl q r holds

first_holds : (locks : Locks) (first : Option Wait) (q : Enlist) (r : Resource) → Holds q (lock_of r locks) → Holds q (lock_of r (end_first first locks).1)
first_holds locks None q r holds = holds
first_holds locks (Some wait) q r holds = ended_holds wait locks (holder_of wait.what wait.who locks) q r holds

module _ (who q : Enlist) (other : same who q ≡ false) where
  released_holds : (what : Resource) (table : Table) → IsSorted table → (r : Resource) → Holds q (lock_in r table) → Holds q (lock_in r (released_in who what table).0)
  released_holds what table up r holds =
      let lock : Lock = lock_in what table in
      let out : Lock = (released who lock []).0 in
      ⊎_elim
      (λ is.
      let before : has q (without who lock.holders) ≡ true = has_without_other who q other lock.holders ∙ ap (λ s. has q (lock_in s table).holders) (sym is) ∙ holds in
      ap (λ s. has q (lock_in s (left_lock what out table)).holders) is ∙ ap (λ (l : Lock). has q l.holders) (left_at what out table up)
      ∙ settled_holds (without who lock.holders) (without who lock.queue) [] q before)
      (λ apart. ap (λ (l : Lock). has q l.holders) (left_beside what out table r apart) ∙ holds)
      (same_or_apart r what)

  release_holds : (asks : List Resource) (locks : Locks) (before : List Enlist) → IsSorted locks.table → (r : Resource) → Holds q (lock_of r locks) → Holds q (lock_of r (release_each who asks locks before).0)
  release_holds [] locks before up r holds = holds
  release_holds (what ∷ more) locks before up r holds =
      let out = released_in who what locks.table in
      let next = release_at who what locks before in
      let same_table : next.0.table ≡ out.0 = end_waits_table what out.1 (record locks { table = out.0 }) in
      release_holds more next.0 next.1 (subst IsSorted (sym same_table) (sorted_left what (released who (lock_of what locks) []).0 locks.table up)) r
      (ap (λ table. has q (lock_in r table).holders) same_table ∙ released_holds what locks.table up r holds)

called_holds : (call : Call) (locks : Locks) → IsSorted locks.table → (q : Enlist) (r : Resource) → releases q call ≡ false → Holds q (lock_of r locks) → Holds q (lock_of r (called call locks))
called_holds (Ask who what mode) locks up q r other holds = ask_holds (verdict (record { who = who; mode = mode }) (lock_of what locks)) what (record { who = who; mode = mode }) locks q r holds
called_holds (Hold who what mode) locks up q r other holds =
    let claim : Claim = record { who = who; mode = mode } in
    elim (is_covered claim (lock_of what locks).holders) as (λ b. Holds q (lock_of r (cond b locks (grant what claim locks)))) [ true ↦ holds | false ↦ grant_holds what claim locks q r holds ]
called_holds (Release who) locks up q r other holds = release_holds who q other (part_of who locks).asks (left who locks) [] up r holds
called_holds Tick locks up q r other holds = first_holds (age locks) (first_over (age locks).waits) q r holds

pub holders_stay : HoldersStay
holders_stay calls call who what other holds = called_holds call (after calls) (waits_kept calls).sorted who what other holds
