-- Each wait stands in the queue of its resource, after every list of calls.
use Rattle.std.proofs.Common.{◌≡◌, ◌⊎◌, ℕ, zero, suc, Bool, true, false, not, ◌&&◌, ◌||◌, cond, List, [], ◌∷◌, ◌++◌, length, map, Option, Some, None, refl, sym, ap, ◌∙◌, inl, inr, ⊎_elim, subst}
use Rattle.std.specs.Prelude.{◌==◌, unwrap_or, find}
use Rattle.std.specs.BTreeMap.{is_at}
use Rattle.std.specs.List.{insert, list_all, list_any}
use Rattle.std.specs.List.Sorted.{IsStrictlySortedBy}
use Rattle.std.specs.Map.{lookup, keys_of, remove_entry}
use Rattle.std.specs.Option.{option_map}
use Rattle.std.specs.Ordering.{is_eq}
use Rattle.std.proofs.lemmas.Bool.{and_parts, and_from, or_cases, or_left, or_right, not_from_false, not-true, false≢true, eqb-true}
use Rattle.std.proofs.lemmas.List.{nil_from_length}
use Rattle.std.proofs.lemmas.List.Folds.{list_any-append}
use Rattle.law_map.proofs.Entries.{lookup_put, lookup_beside, lookup_left, lookup_gone, keys_stay_sorted, left_in_order}
use Rattle.rs_base.specs.declared.lock.Resource.{Resource}
use Rattle.rs_base.specs.declared.txn.Enlist.{Enlist}
use Rattle.rs_base.specs.Orders.{resource_cmp}
use Rattle.rs_lock.specs.declared.claim.Claim.{Claim}
use Rattle.rs_lock.specs.declared.verdict.Verdict.{Verdict}
use Rattle.rs_lock.specs.declared.verdict.Verdict.TheVariants as verdicts
use Rattle.rs_lock.specs.declared.wait.Wait.{Wait}
use Rattle.rs_lock.specs.Calls.{lock_of, part_of, ask_by, grant, end_wait, end_waits, release_at, release_each, left, age, end_first, ended_by, give_up, holder_of}
use Rattle.rs_lock.specs.Claims.{same, is_by, has, without, is_refused, is_covered, other_than}
use Rattle.rs_lock.specs.Courses.{Call, Ask, Hold, Release, Tick, may_come, called, step, run, after}
use Rattle.rs_lock.specs.Lock.{Lock, unlocked, is_free, verdict, granted, place, enqueued, settled, released, dequeued}
use Rattle.rs_lock.specs.Locks.{Locks, Table, no_locks, lock_in, with_lock, left_lock, taken_in, with_dequeued, dequeued_in, released_in}
use Rattle.rs_lock.specs.Waits.{waits_for, without_wait, aged, is_over, first_over}
use Rattle.rs_lock.proofs.Orders.{resource_total, resource_exact}
use Rattle.rs_lock.proofs.Kept.{end_waits_table}
use Rattle.rs_lock.proofs.Queues.{same_is, has_without_other, all_weaker, is_tie}
use Rattle.rs_lock.proofs.LawProofs.{blocked_by_holder}
use Rattle.rs_lock.proofs.Verdicts.{same_self}
use Rattle.rs_lock.specs.Laws.{has_other, WaitsEnd}

-- ---- the lock of a resource in a changed table

pub same_or_apart : (q what : Resource) → (q ≡ what) ⊎ (is_eq (resource_cmp q what) ≡ false)
same_or_apart q what = by_test (is_eq (resource_cmp q what)) refl
  where
    by_test : (b : Bool) → is_eq (resource_cmp q what) ≡ b → (q ≡ what) ⊎ (is_eq (resource_cmp q what) ≡ false)
    by_test true e = inl (resource_exact q what (is_tie (resource_cmp q what) e))
    by_test false e = inr e

pub lock_put : (what : Resource) (lock : Lock) (table : Table) → lock_in what (with_lock what lock table) ≡ lock
lock_put what lock table = ap (λ found. unwrap_or found unlocked) (lookup_put resource_total what lock table)

pub lock_beside : (what : Resource) (lock : Lock) (table : Table) (q : Resource) → is_eq (resource_cmp q what) ≡ false → lock_in q (with_lock what lock table) ≡ lock_in q table
lock_beside what lock table q apart = ap (λ found. unwrap_or found unlocked) (lookup_beside resource_total what lock q apart table)

abbrev pub IsSorted : Table → Type 0
IsSorted table = IsStrictlySortedBy resource_cmp (keys_of table)

left_queue : (what : Resource) (lock : Lock) (table : Table) → IsSorted table → (lock_in what (left_lock what lock table)).queue ≡ lock.queue
left_queue what lock table up =
    elim (is_free lock) as (λ b. is_free lock ≡ b → (lock_in what (cond b (remove_entry (is_at (resource_cmp what)) table) (with_lock what lock table))).queue ≡ lock.queue) [
      | true ↦ λ free.
          let empty : lock.queue ≡ [] = nil_from_length lock.queue (eqb-true (length lock.queue) 0 (and_parts (length lock.holders == 0) (length lock.queue == 0) free).1) in
          ap (λ found. (unwrap_or found unlocked).queue) (lookup_gone resource_total what table up) ∙ sym empty
      | false ↦ λ free. ap (λ (l : Lock). l.queue) (lock_put what lock table)
    ] refl

pub left_beside : (what : Resource) (lock : Lock) (table : Table) (q : Resource) → is_eq (resource_cmp q what) ≡ false → lock_in q (left_lock what lock table) ≡ lock_in q table
left_beside what lock table q apart =
    elim (is_free lock) as (λ b. lock_in q (cond b (remove_entry (is_at (resource_cmp what)) table) (with_lock what lock table)) ≡ lock_in q table) [
      | true ↦ ap (λ found. unwrap_or found unlocked) (lookup_left resource_total q what apart table)
      | false ↦ lock_beside what lock table q apart
    ]

sorted_with : (what : Resource) (lock : Lock) (table : Table) → IsSorted table → IsSorted (with_lock what lock table)
sorted_with what lock table up = keys_stay_sorted resource_total what lock table up

pub sorted_left : (what : Resource) (lock : Lock) (table : Table) → IsSorted table → IsSorted (left_lock what lock table)
sorted_left what lock table up =
    elim (is_free lock) as (λ b. IsSorted (cond b (remove_entry (is_at (resource_cmp what)) table) (with_lock what lock table)))
    [ true ↦ left_in_order resource_cmp (is_at (resource_cmp what)) table up | false ↦ sorted_with what lock table up ]

-- ---- each wait stands in its queue

abbrev pub stands_in : Table → Wait → Bool
stands_in table wait = has wait.who (lock_in wait.what table).queue

pub record IsKept (locks : Locks) : Type 0 where
  pub sorted : IsStrictlySortedBy resource_cmp (keys_of locks.table)
  pub queued : list_all (stands_in locks.table) locks.waits ≡ true

any_insert_old : {X : Type 0} (p : X → Bool) (x : X) (k : ℕ) (xs : List X) → list_any p xs ≡ true → list_any p (insert xs k x) ≡ true
any_insert_old p x zero xs here = or_right (p x) (list_any p xs) here
any_insert_old p x (suc k) [] here = absurd (false≢true here)
any_insert_old p x (suc k) (y ∷ ys) here =
    elim (p y) as (λ b. (b || list_any p ys) ≡ true → (b || list_any p (insert ys k x)) ≡ true) [ true ↦ λ h. refl | false ↦ λ h. any_insert_old p x k ys h ] here

any_insert_new : {X : Type 0} (p : X → Bool) (x : X) (k : ℕ) (xs : List X) → p x ≡ true → list_any p (insert xs k x) ≡ true
any_insert_new p x zero xs here = or_left (p x) (list_any p xs) here
any_insert_new p x (suc k) [] here = or_left (p x) false here
any_insert_new p x (suc k) (y ∷ ys) here = or_right (p y) (list_any p (insert ys k x)) (any_insert_new p x k ys here)

-- the waits of others are left, each with what it has besides
kept_without : (who : Enlist) (p q : Wait → Bool) → ((wait : Wait) → waits_for who wait ≡ false → p wait ≡ true → q wait ≡ true) → (waits : List Wait) → list_all p waits ≡ true
    → list_all q (without_wait who waits) ≡ true
kept_without who p q says [] all = refl
kept_without who p q says (w ∷ ws) all =
    let parts = and_parts (p w) (list_all p ws) all in
    elim (waits_for who w) as (λ b. waits_for who w ≡ b → list_all q (cond (not b) (w ∷ without_wait who ws) (without_wait who ws)) ≡ true) [
      | true ↦ λ h. kept_without who p q says ws parts.1
      | false ↦ λ h. and_from (q w) (list_all q (without_wait who ws)) (says w h parts.0) (kept_without who p q says ws parts.1)
    ] refl

-- ---- an ask

pub queue_taken : (what : Resource) (claim : Claim) (table : Table) (who : Enlist) (q : Resource) → has who (lock_in q (with_lock what (taken_in claim (lock_in what table)) table)).queue ≡ has who (lock_in q table).queue
queue_taken what claim table who q = by_case (same_or_apart q what)
  where
    new : Table
    new = with_lock what (taken_in claim (lock_in what table)) table

    by_case : (q ≡ what) ⊎ (is_eq (resource_cmp q what) ≡ false) → has who (lock_in q (with_lock what (taken_in claim (lock_in what table)) table)).queue ≡ has who (lock_in q table).queue
    by_case (inl is) =
        ap (λ r. has who (lock_in r (with_lock what (taken_in claim (lock_in what table)) table)).queue) is
        ∙ ap (λ (l : Lock). has who l.queue) (lock_put what (taken_in claim (lock_in what table)) table)
        ∙ ap (λ r. has who (lock_in r table).queue) (sym is)
    by_case (inr apart) = ap (λ (l : Lock). has who l.queue) (lock_beside what (taken_in claim (lock_in what table)) table q apart)

granted_kept : (what : Resource) (claim : Claim) (locks : Locks) → IsKept locks → IsKept (grant what claim locks)
granted_kept what claim locks kept = record {
  sorted = sorted_with what (taken_in claim (lock_of what locks)) locks.table kept.sorted;
  queued = all_weaker (stands_in locks.table) (stands_in (with_lock what (taken_in claim (lock_of what locks)) locks.table))
      (λ w stands. queue_taken what claim locks.table w.who w.what ∙ stands) locks.waits kept.queued;
}

queue_enqueued : (what : Resource) (claim : Claim) (table : Table) (who : Enlist) (q : Resource) → has who (lock_in q table).queue ≡ true → has who (lock_in q (with_lock what (enqueued claim (lock_in what table)) table)).queue ≡ true
queue_enqueued what claim table who q stands = by_case (same_or_apart q what)
  where
    by_case : (q ≡ what) ⊎ (is_eq (resource_cmp q what) ≡ false) → has who (lock_in q (with_lock what (enqueued claim (lock_in what table)) table)).queue ≡ true
    by_case (inl is) =
        ap (λ r. has who (lock_in r (with_lock what (enqueued claim (lock_in what table)) table)).queue) is
        ∙ ap (λ (l : Lock). has who l.queue) (lock_put what (enqueued claim (lock_in what table)) table)
        ∙ any_insert_old (is_by who) claim (place claim (lock_in what table)) (lock_in what table).queue (ap (λ r. has who (lock_in r table).queue) (sym is) ∙ stands)
    by_case (inr apart) = ap (λ (l : Lock). has who l.queue) (lock_beside what (enqueued claim (lock_in what table)) table q apart) ∙ stands

all_push : {X : Type 0} (p : X → Bool) (xs : List X) (x : X) → list_all p xs ≡ true → p x ≡ true → list_all p (xs ++ x ∷ []) ≡ true
all_push p [] x all here = and_from (p x) true here refl
all_push p (y ∷ ys) x all here =
    let parts = and_parts (p y) (list_all p ys) all in
    and_from (p y) (list_all p (ys ++ x ∷ [])) parts.0 (all_push p ys x parts.1 here)

enqueued_kept : (what : Resource) (claim : Claim) (holder : Enlist) (locks : Locks) → IsKept locks → IsKept (ask_by (verdicts.Blocked holder) what claim locks).1
enqueued_kept what claim holder locks kept =
    let new : Table = with_lock what (enqueued claim (lock_of what locks)) locks.table in
    let wait : Wait = record { who = claim.who; what = what; ticks = 0 } in
    record {
      sorted = sorted_with what (enqueued claim (lock_of what locks)) locks.table kept.sorted;
      queued = all_push (stands_in new) locks.waits wait
          (all_weaker (stands_in locks.table) (stands_in new) (λ w stands. queue_enqueued what claim locks.table w.who w.what stands) locks.waits kept.queued)
          (ap (λ (l : Lock). has claim.who l.queue) (lock_put what (enqueued claim (lock_of what locks)) locks.table)
          ∙ any_insert_new (is_by claim.who) claim (place claim (lock_of what locks)) (lock_of what locks).queue (same_self claim.who));
    }

asked_kept : (what : Resource) (claim : Claim) (locks : Locks) → IsKept locks → (v : Verdict) → IsKept (ask_by v what claim locks).1
asked_kept what claim locks kept verdicts.Covered = kept
asked_kept what claim locks kept verdicts.Free = granted_kept what claim locks kept
asked_kept what claim locks kept (verdicts.Blocked holder) = enqueued_kept what claim holder locks kept

-- ---- a release

abbrev pub among : Enlist → List Enlist → Bool
among q es = list_any (λ e. same e q) es

settled_more : (holders queue : List Claim) (before : List Enlist) (q : Enlist) → among q before ≡ true → among q (settled holders queue before).1 ≡ true
settled_more holders [] before q here = here
settled_more holders (c ∷ queue) before q here =
    elim (is_refused c holders) as (λ b. among q (cond b (record { holders = holders; queue = c ∷ queue }, before) (settled (granted c holders) queue (before ++ c.who ∷ []))).1 ≡ true) [
      | true ↦ here
      | false ↦ settled_more (granted c holders) queue (before ++ c.who ∷ []) q
          (list_any-append (λ e. same e q) before (c.who ∷ []) ∙ or_left (among q before) (same c.who q || false) here)
    ]

-- one that stood in the queue stands there still, or was granted
abbrev StandsOrIsGranted : Enlist → Lock × List Enlist → Type 0
StandsOrIsGranted q out = (has q out.0.queue || among q out.1) ≡ true

was_granted : (holders queue : List Claim) (before : List Enlist) (q : Enlist) → among q before ≡ true → StandsOrIsGranted q (settled holders queue before)
was_granted holders queue before q here =
    or_right (has q (settled holders queue before).0.queue) (among q (settled holders queue before).1) (settled_more holders queue before q here)

settled_has : (holders queue : List Claim) (before : List Enlist) (q : Enlist) → has q queue ≡ true → StandsOrIsGranted q (settled holders queue before)
settled_has holders [] before q here = absurd (false≢true here)
settled_has holders (c ∷ queue) before q here =
    let now : List Enlist = before ++ c.who ∷ [] in
    let own : is_by q c ≡ true → among q now ≡ true =
    λ h.
    let is : q ≡ c.who = same_is q c.who h in
    list_any-append (λ e. same e q) before (c.who ∷ [])
    ∙ or_right (among q before) (same c.who q || false) (or_left (same c.who q) false (ap (λ w. same c.who w) is ∙ same_self c.who)) in
    let out : Bool → Lock × List Enlist = λ b. cond b (record { holders = holders; queue = c ∷ queue }, before) (settled (granted c holders) queue now) in
    elim (is_refused c holders) as (λ b. StandsOrIsGranted q (out b)) [
      | true ↦ or_left (has q (c ∷ queue)) (among q before) here
      | false ↦ ⊎_elim (λ h. was_granted (granted c holders) queue now q (own h)) (λ later. settled_has (granted c holders) queue now q later) (or_cases (is_by q c) (has q queue) here)
    ]

module _ (who : Enlist) where
  -- the wait is another enlistment's, and it stands in its queue or is to be ended
  abbrev stays : Table → List Enlist → Wait → Bool
  stays table granted w = (stands_in table w || among w.who granted) && not (waits_for who w)

  abbrev stays_in : Table → Wait → Bool
  stays_in table w = stands_in table w && not (waits_for who w)

  released_stays : (what : Resource) (table : Table) → IsSorted table → (w : Wait) → stays_in table w ≡ true → stays (released_in who what table).0 (released_in who what table).1 w ≡ true
  released_stays what table up w stays = by_case (same_or_apart w.what what)
    where
      out : Lock × List Enlist
      out = released who (lock_in what table) []

      by_case : (w.what ≡ what) ⊎ (is_eq (resource_cmp w.what what) ≡ false)
          → ((has w.who (lock_in w.what (left_lock what (released who (lock_in what table) []).0 table)).queue || among w.who (released who (lock_in what table) []).1) && not (waits_for who w)) ≡ true
      by_case (inl is) =
          let parts = and_parts (stands_in table w) (not (waits_for who w)) stays in
          let here : has w.who (without who (lock_in what table).queue) ≡ true =
          has_without_other who w.who (not-true (waits_for who w) parts.1) (lock_in what table).queue ∙ ap (λ r. has w.who (lock_in r table).queue) (sym is) ∙ parts.0 in
          let queue : (lock_in w.what (left_lock what (released who (lock_in what table) []).0 table)).queue ≡ (released who (lock_in what table) []).0.queue =
          ap (λ r. (lock_in r (left_lock what (released who (lock_in what table) []).0 table)).queue) is ∙ left_queue what (released who (lock_in what table) []).0 table up in
          and_from (has w.who (lock_in w.what (left_lock what (released who (lock_in what table) []).0 table)).queue || among w.who (released who (lock_in what table) []).1) (not (waits_for who w))
          (ap (λ queue. has w.who queue || among w.who (released who (lock_in what table) []).1) queue
          ∙ settled_has (without who (lock_in what table).holders) (without who (lock_in what table).queue) [] w.who here) parts.1
      by_case (inr apart) =
          let parts = and_parts (stands_in table w) (not (waits_for who w)) stays in
          and_from (has w.who (lock_in w.what (left_lock what (released who (lock_in what table) []).0 table)).queue || among w.who (released who (lock_in what table) []).1) (not (waits_for who w))
          (or_left (has w.who (lock_in w.what (left_lock what (released who (lock_in what table) []).0 table)).queue) (among w.who (released who (lock_in what table) []).1)
          (ap (λ (l : Lock). has w.who l.queue) (left_beside what (released who (lock_in what table) []).0 table w.what apart) ∙ parts.0)) parts.1

  -- those that were granted wait no more
  ended_stays : (what : Resource) (granted : List Enlist) (locks : Locks) → list_all (stays locks.table granted) locks.waits ≡ true
      → list_all (stays_in locks.table) (end_waits what granted locks).waits ≡ true
  ended_stays what [] locks all = all_weaker (stays locks.table []) (stays_in locks.table) none locks.waits all
    where
      none : (w : Wait) → ((stands_in locks.table w || false) && not (waits_for who w)) ≡ true → (stands_in locks.table w && not (waits_for who w)) ≡ true
      none w = elim (stands_in locks.table w) as (λ b. ((b || false) && not (waits_for who w)) ≡ true → (b && not (waits_for who w)) ≡ true) [ true ↦ λ h. h | false ↦ λ h. h ]
  ended_stays what (e ∷ es) locks all =
      ended_stays what es (end_wait what e locks) (kept_without e (stays locks.table (e ∷ es)) (stays locks.table es) others locks.waits all)
    where
      others : (w : Wait) → waits_for e w ≡ false → ((stands_in locks.table w || (same e w.who || among w.who es)) && not (waits_for who w)) ≡ true
          → ((stands_in locks.table w || among w.who es) && not (waits_for who w)) ≡ true
      others w apart h = ap (λ b. (stands_in locks.table w || (b || among w.who es)) && not (waits_for who w)) (sym apart) ∙ h

  released_kept : (asks : List Resource) (locks : Locks) (before : List Enlist) → IsSorted locks.table → list_all (stays_in locks.table) locks.waits ≡ true → IsKept (release_each who asks locks before).0
  released_kept [] locks before up all = record {
    sorted = up;
    queued = all_weaker (stays_in locks.table) (stands_in locks.table) (λ w h. (and_parts (stands_in locks.table w) (not (waits_for who w)) h).0) locks.waits all;
  }
  released_kept (what ∷ more) locks before up all =
      let out = released_in who what locks.table in
      let changed : Locks = record locks { table = out.0 } in
      let next = release_at who what locks before in
      let same_table : next.0.table ≡ out.0 = end_waits_table what out.1 changed in
      let stay : list_all (stays_in out.0) next.0.waits ≡ true =
      ended_stays what out.1 changed (all_weaker (stays_in locks.table) (stays out.0 out.1) (λ w h. released_stays what locks.table up w h) locks.waits all) in
      released_kept more next.0 next.1
      (subst IsSorted (sym same_table) (sorted_left what (released who (lock_of what locks) []).0 locks.table up))
      (ap (λ table. list_all (stays_in table) next.0.waits) same_table ∙ stay)

  left_stays : (locks : Locks) → IsKept locks → list_all (stays_in locks.table) (without_wait who locks.waits) ≡ true
  left_stays locks kept =
      kept_without who (stands_in locks.table) (stays_in locks.table) (λ w apart stands. and_from (stands_in locks.table w) (not (waits_for who w)) stands (not_from_false (waits_for who w) apart)) locks.waits kept.queued

-- ---- a tick

all_aged : (p : Wait → Bool) → ((w : Wait) → p w ≡ true → p (aged w) ≡ true) → (waits : List Wait) → list_all p waits ≡ true → list_all p (map aged waits) ≡ true
all_aged p says [] all = refl
all_aged p says (w ∷ ws) all =
    let parts = and_parts (p w) (list_all p ws) all in
    and_from (p (aged w)) (list_all p (map aged ws)) (says w parts.0) (all_aged p says ws parts.1)

pub aged_kept : (locks : Locks) → IsKept locks → IsKept (age locks)
aged_kept locks kept = record { sorted = kept.sorted; queued = all_aged (stands_in locks.table) (λ w stands. stands) locks.waits kept.queued }

module _ (what : Resource) (who : Enlist) (table : Table) where
  pub queue_dequeued : (found : Option Lock) → lookup (is_at (resource_cmp what)) table ≡ found → (q : Enlist) → same who q ≡ false → (r : Resource)
      → has q (lock_in r (with_dequeued what who found table)).queue ≡ has q (lock_in r table).queue
  queue_dequeued None is q apart r = refl
  queue_dequeued (Some lock) is q apart r = by_case (same_or_apart r what)
    where
      there : lock_in what table ≡ lock
      there = ap (λ found. unwrap_or found unlocked) is

      by_case : (r ≡ what) ⊎ (is_eq (resource_cmp r what) ≡ false) → has q (lock_in r (with_lock what (dequeued who lock) table)).queue ≡ has q (lock_in r table).queue
      by_case (inl at) =
          ap (λ s. has q (lock_in s (with_lock what (dequeued who lock) table)).queue) at
          ∙ ap (λ (l : Lock). has q l.queue) (lock_put what (dequeued who lock) table)
          ∙ has_without_other who q apart lock.queue
          ∙ ap (λ (l : Lock). has q l.queue) (sym (ap (λ found. unwrap_or found unlocked) is))
          ∙ ap (λ s. has q (lock_in s table).queue) (sym at)
      by_case (inr beside) = ap (λ (l : Lock). has q l.queue) (lock_beside what (dequeued who lock) table r beside)

  sorted_dequeued : (found : Option Lock) → IsSorted table → IsSorted (with_dequeued what who found table)
  sorted_dequeued None up = up
  sorted_dequeued (Some lock) up = sorted_with what (dequeued who lock) table up

given_up_kept : (wait : Wait) (locks : Locks) → IsKept locks → IsKept (give_up wait locks)
given_up_kept wait locks kept =
    let found : Option Lock = lookup (is_at (resource_cmp wait.what)) locks.table in
    record {
      sorted = sorted_dequeued wait.what wait.who locks.table found kept.sorted;
      queued = kept_without wait.who (stands_in locks.table) (stands_in (dequeued_in wait.what wait.who locks.table))
          (λ w apart stands. queue_dequeued wait.what wait.who locks.table found refl w.who apart w.what ∙ stands) locks.waits kept.queued;
    }

ended_kept : (wait : Wait) (locks : Locks) → IsKept locks → (holder : Option Enlist) → IsKept (ended_by wait holder locks).1
ended_kept wait locks kept None = kept
ended_kept wait locks kept (Some holder) = given_up_kept wait locks kept

first_kept : (locks : Locks) → IsKept locks → (first : Option Wait) → IsKept (end_first first locks).1
first_kept locks kept None = kept
first_kept locks kept (Some wait) = ended_kept wait locks kept (holder_of wait.what wait.who locks)

-- ---- every list of calls

pub called_kept : (call : Call) (locks : Locks) → IsKept locks → IsKept (called call locks)
called_kept (Ask who what mode) locks kept = asked_kept what (record { who = who; mode = mode }) locks kept (verdict (record { who = who; mode = mode }) (lock_of what locks))
called_kept (Hold who what mode) locks kept =
    let claim : Claim = record { who = who; mode = mode } in
    elim (is_covered claim (lock_of what locks).holders) as (λ b. IsKept (cond b locks (grant what claim locks))) [ true ↦ kept | false ↦ granted_kept what claim locks kept ]
called_kept (Release who) locks kept = released_kept who (part_of who locks).asks (left who locks) [] kept.sorted (left_stays who locks kept)
called_kept Tick locks kept = first_kept (age locks) (aged_kept locks kept) (first_over (age locks).waits)

run_kept : (calls : List Call) (locks : Locks) → IsKept locks → IsKept (run calls locks)
run_kept [] locks kept = kept
run_kept (call ∷ more) locks kept =
    run_kept more (step call locks) (elim (may_come call locks) as (λ b. IsKept (cond b (called call locks) locks)) [ true ↦ called_kept call locks kept | false ↦ kept ])

pub none_kept : IsKept no_locks
unfolding IsStrictlySortedBy
none_kept = record { sorted = tt; queued = refl }

pub waits_kept : (calls : List Call) → IsKept (after calls)
waits_kept calls = run_kept calls no_locks none_kept

-- ---- a wait that is over ends

found_all : (p : Wait → Bool) (waits : List Wait) (wait : Wait) → list_all p waits ≡ true → first_over waits ≡ Some wait → p wait ≡ true
found_all p [] wait all e = cc
found_all p (w ∷ ws) wait all e =
    let parts = and_parts (p w) (list_all p ws) all in
    elim (is_over w) as (λ b. cond b (Some w) (first_over ws) ≡ Some wait → p wait ≡ true) [
      | true ↦ λ h. ap p (sym (some_is h)) ∙ parts.0
      | false ↦ λ h. found_all p ws wait parts.1 h
    ] e
  where
    some_is : {A : Type 0} {x y : A} → Some x ≡ Some y → x ≡ y
    some_is e = cc

-- of a claim in the queue
all_has : (who : Enlist) (p : Enlist → Bool) (queue : List Claim) → list_all (λ queued. p queued.who) queue ≡ true → has who queue ≡ true → p who ≡ true
all_has who p [] all here = absurd (false≢true here)
all_has who p (c ∷ queue) all here =
    let parts = and_parts (p c.who) (list_all (λ queued. p queued.who) queue) all in
    ⊎_elim (λ own. ap p (same_is who c.who own) ∙ parts.0) (λ later. all_has who p queue parts.1 later) (or_cases (is_by who c) (has who queue) here)

other_found : (who : Enlist) (holders : List Claim) → has_other who holders ≡ true → other_than who holders ≡ None → ⊥
other_found who [] other e = false≢true other
other_found who (c ∷ cs) other e =
    elim (is_by who c) as (λ b. (not b || has_other who cs) ≡ true → option_map (λ (claim : Claim). claim.who) (cond (not b) (Some c) (find (λ claim. not (is_by who claim)) cs)) ≡ None → ⊥)
    [ true ↦ λ h n. other_found who cs h n | false ↦ λ h n. some_not n ] other e
  where
    some_not : Some c.who ≡ None → ⊥
    some_not e = cc

module _ (calls : List Call) where
  by_holder : (wait : Wait) → stands_in (after calls).table wait ≡ true → (holder : Option Enlist) → holder_of wait.what wait.who (after calls) ≡ holder
      → (ended_by wait holder (age (after calls))).0 ≡ None → ⊥
  by_holder wait stands None here e =
      let lock : Lock = lock_of wait.what (after calls) in
      other_found wait.who lock.holders (all_has wait.who (λ q. has_other q lock.holders) lock.queue (blocked_by_holder calls wait.what) stands) here
  by_holder wait stands (Some holder) here e = some_not e
    where
      some_not : {A : Type 0} {x : A} → Some x ≡ None → ⊥
      some_not e = cc

  by_first : (first : Option Wait) → first_over (age (after calls)).waits ≡ first → (end_first first (age (after calls))).0 ≡ None → first ≡ None
  by_first None is e = refl
  by_first (Some wait) is e =
      absurd (by_holder wait (found_all (stands_in (after calls).table) (age (after calls)).waits wait (aged_kept (after calls) (waits_kept calls)).queued is)
      (holder_of wait.what wait.who (after calls)) refl e)

pub waits_end : WaitsEnd
waits_end calls e = by_first calls (first_over (age (after calls)).waits) refl e
