-- An enlistment holds and waits for only what it asked for, so that a release leaves nothing of it.
use Rattle.std.proofs.Common.{◌≡◌, ◌⊎◌, ℕ, zero, suc, Bool, true, false, not, ◌||◌, cond, List, [], ◌∷◌, ◌++◌, length, filter, Option, Some, None, refl, sym, ap, ◌∙◌, inl, inr, ⊎_elim, subst}
use Rattle.std.specs.Prelude.{◌==◌, unwrap_or}
use Rattle.std.specs.BTreeMap.{is_at}
use Rattle.std.specs.List.{insert, list_any}
use Rattle.std.specs.Map.{lookup, remove_entry}
use Rattle.std.specs.Ordering.{is_eq}
use Rattle.std.proofs.lemmas.Bool.{and_parts, or_cases, or_left, or_right, eqb-true, true≢false, false≢true}
use Rattle.std.proofs.lemmas.Cmp.{tied_itself}
use Rattle.std.proofs.lemmas.List.{nil_from_length}
use Rattle.std.proofs.lemmas.List.Folds.{list_any-append}
use Rattle.law_map.proofs.Entries.{lookup_put, lookup_beside, lookup_left, lookup_gone}
use Rattle.rs_base.specs.declared.lock.Resource.{Resource}
use Rattle.rs_base.specs.declared.txn.Enlist.{Enlist}
use Rattle.rs_base.specs.Orders.{resource_cmp}
use Rattle.rs_lock.specs.declared.claim.Claim.{Claim}
use Rattle.rs_lock.specs.declared.part.Part.{Part}
use Rattle.rs_lock.specs.declared.verdict.Verdict.{Verdict}
use Rattle.rs_lock.specs.declared.verdict.Verdict.TheVariants as verdicts
use Rattle.rs_lock.specs.declared.wait.Wait.{Wait}
use Rattle.rs_lock.specs.Calls.{lock_of, part_of, note_ask, note_grant, take_lock, wait_for, grant, ask_by, end_wait, end_waits, release_at, release_each, release, left, age, end_first, ended_by, holder_of}
use Rattle.rs_lock.specs.Claims.{same, is_by, has, without, is_refused, is_covered}
use Rattle.rs_lock.specs.Courses.{Call, Ask, Hold, Release, Tick, may_come, called, step, run, after}
use Rattle.rs_lock.specs.Laws.{has_claim, AskedFor, LeavesNothing}
use Rattle.rs_lock.specs.Lock.{Lock, unlocked, is_free, verdict, granted, place, enqueued, settled, released, dequeued}
use Rattle.rs_lock.specs.Locks.{Locks, Table, no_locks, lock_in, with_lock, left_lock, taken_in, with_dequeued, released_in}
use Rattle.rs_lock.specs.Parts.{Parts, idle, asked, given, part_in, with_part, without_part}
use Rattle.rs_lock.specs.Resources as resources
use Rattle.rs_lock.specs.Resources.{noted}
use Rattle.rs_lock.specs.Waits.{first_over}
use Rattle.rs_lock.proofs.Kept.{end_waits_table}
use Rattle.rs_lock.proofs.Orders.{enlist_total, resource_total}
use Rattle.rs_lock.proofs.Queues.{same_is}
use Rattle.rs_lock.proofs.Waiting.{IsKept, IsSorted, same_or_apart, lock_put, lock_beside, left_beside, sorted_left, called_kept, none_kept}

-- ---- tests of lists

pub any_filter_back : {X : Type 0} (p test : X → Bool) (xs : List X) → list_any p (filter test xs) ≡ true → list_any p xs ≡ true
any_filter_back p test [] h = h
any_filter_back p test (x ∷ xs) h =
    elim (test x) as (λ b. list_any p (cond b (x ∷ filter test xs) (filter test xs)) ≡ true → (p x || list_any p xs) ≡ true) [
      | true ↦ λ e. ⊎_elim (λ here. or_left (p x) (list_any p xs) here) (λ later. or_right (p x) (list_any p xs) (any_filter_back p test xs later)) (or_cases (p x) (list_any p (filter test xs)) e)
      | false ↦ λ e. or_right (p x) (list_any p xs) (any_filter_back p test xs e)
    ] h

pub any_insert_back : {X : Type 0} (p : X → Bool) (x : X) (k : ℕ) (xs : List X) → list_any p (insert xs k x) ≡ true → (p x ≡ true) ⊎ (list_any p xs ≡ true)
any_insert_back p x zero xs h = or_cases (p x) (list_any p xs) h
any_insert_back p x (suc k) [] h = or_cases (p x) false h
any_insert_back p x (suc k) (y ∷ ys) h =
    ⊎_elim (λ here. inr (or_left (p y) (list_any p ys) here))
    (λ later. ⊎_elim (λ new. inl new) (λ old. inr (or_right (p y) (list_any p ys) old)) (any_insert_back p x k ys later))
    (or_cases (p y) (list_any p (insert ys k x)) h)

-- ---- whose claims a change leaves

pub has_without_self : (who : Enlist) (claims : List Claim) → has who (without who claims) ≡ false
has_without_self who [] = refl
has_without_self who (c ∷ cs) =
    elim (is_by who c) as (λ b. is_by who c ≡ b → has who (cond (not b) (c ∷ without who cs) (without who cs)) ≡ false) [
      | true ↦ λ h. has_without_self who cs
      | false ↦ λ h. ap (λ b. b || has who (without who cs)) h ∙ has_without_self who cs
    ] refl

granted_back : (c : Claim) (holders : List Claim) (q : Enlist) → has q (granted c holders) ≡ true → (is_by q c ≡ true) ⊎ (has q holders ≡ true)
granted_back c holders q h =
    ⊎_elim (λ old. inr (any_filter_back (is_by q) (λ claim. not (is_by c.who claim)) holders old))
    (λ new. ⊎_elim (λ here. inl here) (λ none. absurd (false≢true none)) (or_cases (is_by q c) false new))
    (or_cases (has q (without c.who holders)) (is_by q c || false) (sym (list_any-append (is_by q) (without c.who holders) (c ∷ [])) ∙ h))

settled_back : (holders queue : List Claim) (before : List Enlist) (q : Enlist) → has_claim q (settled holders queue before).0 ≡ true → (has q holders || has q queue) ≡ true
settled_back holders [] before q h = h
settled_back holders (c ∷ queue) before q h =
    let out : Bool → Lock × List Enlist = λ b. cond b (record { holders = holders; queue = c ∷ queue }, before) (settled (granted c holders) queue (before ++ c.who ∷ [])) in
    elim (is_refused c holders) as (λ b. has_claim q (out b).0 ≡ true → (has q holders || (is_by q c || has q queue)) ≡ true) [
      | true ↦ λ e. e
      | false ↦ λ e.
          ⊎_elim
          (λ holds. ⊎_elim (λ here. or_right (has q holders) (is_by q c || has q queue) (or_left (is_by q c) (has q queue) here)) (λ old. or_left (has q holders) (is_by q c || has q queue) old)
          (granted_back c holders q holds))
          (λ later. or_right (has q holders) (is_by q c || has q queue) (or_right (is_by q c) (has q queue) later))
          (or_cases (has q (granted c holders)) (has q queue) (settled_back (granted c holders) queue (before ++ c.who ∷ []) q e))
    ] h

released_back : (who : Enlist) (lock : Lock) (q : Enlist) → has_claim q (released who lock []).0 ≡ true → has_claim q lock ≡ true
released_back who lock q h =
    let test : Claim → Bool = λ claim. not (is_by who claim) in
    ⊎_elim (λ holds. or_left (has q lock.holders) (has q lock.queue) (any_filter_back (is_by q) test lock.holders holds))
    (λ waits. or_right (has q lock.holders) (has q lock.queue) (any_filter_back (is_by q) test lock.queue waits))
    (or_cases (has q (without who lock.holders)) (has q (without who lock.queue)) (settled_back (without who lock.holders) (without who lock.queue) [] q h))

released_gone : (who : Enlist) (lock : Lock) → has_claim who (released who lock []).0 ≡ true → ⊥
released_gone who lock h =
    ⊎_elim (λ holds. true≢false (sym holds ∙ has_without_self who lock.holders)) (λ waits. true≢false (sym waits ∙ has_without_self who lock.queue))
    (or_cases (has who (without who lock.holders)) (has who (without who lock.queue)) (settled_back (without who lock.holders) (without who lock.queue) [] who h))

free_is : (lock : Lock) → is_free lock ≡ true → lock ≡ unlocked
free_is lock free =
    let parts = and_parts (length lock.holders == 0) (length lock.queue == 0) free in
    let holders : lock.holders ≡ [] = nil_from_length lock.holders (eqb-true (length lock.holders) 0 parts.0) in
    let queue : lock.queue ≡ [] = nil_from_length lock.queue (eqb-true (length lock.queue) 0 parts.1) in
    λ i. record { holders = holders i; queue = queue i }

pub left_at : (what : Resource) (lock : Lock) (table : Table) → IsSorted table → lock_in what (left_lock what lock table) ≡ lock
left_at what lock table up =
    elim (is_free lock) as (λ b. is_free lock ≡ b → lock_in what (cond b (remove_entry (is_at (resource_cmp what)) table) (with_lock what lock table)) ≡ lock) [
      | true ↦ λ free. ap (λ found. unwrap_or found unlocked) (lookup_gone resource_total what table up) ∙ sym (free_is lock free)
      | false ↦ λ free. lock_put what lock table
    ] refl

dequeued_back : (what : Resource) (who : Enlist) (table : Table) (found : Option Lock) → lookup (is_at (resource_cmp what)) table ≡ found → (q : Enlist) (r : Resource)
    → has_claim q (lock_in r (with_dequeued what who found table)) ≡ true → has_claim q (lock_in r table) ≡ true
dequeued_back what who table None is q r h = h
dequeued_back what who table (Some lock) is q r h = ⊎_elim at_what beside (same_or_apart r what)
  where
    new : Table
    new = with_lock what (dequeued who lock) table

    at_what : r ≡ what → has_claim q (lock_in r table) ≡ true
    at_what at =
        let here : has_claim q (dequeued who lock) ≡ true =
        ap (has_claim q) (sym (lock_put what (dequeued who lock) table)) ∙ ap (λ s. has_claim q (lock_in s (with_lock what (dequeued who lock) table))) (sym at) ∙ h in
        let before : has_claim q lock ≡ true =
        ⊎_elim (λ holds. or_left (has q lock.holders) (has q lock.queue) holds)
        (λ waits. or_right (has q lock.holders) (has q lock.queue) (any_filter_back (is_by q) (λ claim. not (is_by who claim)) lock.queue waits))
        (or_cases (has q lock.holders) (has q (without who lock.queue)) here) in
        ap (λ s. has_claim q (lock_in s table)) at ∙ ap (λ there. has_claim q (unwrap_or there unlocked)) is ∙ before

    beside : is_eq (resource_cmp r what) ≡ false → has_claim q (lock_in r table) ≡ true
    beside apart = ap (has_claim q) (sym (lock_beside what (dequeued who lock) table r apart)) ∙ h

-- ---- what enlistments asked for

noted_has : (what : Resource) (rs : List Resource) → resources.has what (noted what rs) ≡ true
noted_has what rs =
    elim (resources.has what rs) as (λ b. resources.has what rs ≡ b → resources.has what (cond b rs (rs ++ what ∷ [])) ≡ true) [
      | true ↦ λ h. h
      | false ↦ λ h.
          list_any-append (λ other. is_eq (resource_cmp other what)) rs (what ∷ [])
          ∙ or_right (resources.has what rs) (is_eq (resource_cmp what what) || false) (or_left (is_eq (resource_cmp what what)) false (ap is_eq (tied_itself resource_total what)))
    ] refl

noted_more : (what r : Resource) (rs : List Resource) → resources.has r rs ≡ true → resources.has r (noted what rs) ≡ true
noted_more what r rs here =
    elim (resources.has what rs) as (λ b. resources.has r (cond b rs (rs ++ what ∷ [])) ≡ true) [
      | true ↦ here
      | false ↦ list_any-append (λ other. is_eq (resource_cmp other r)) rs (what ∷ []) ∙ or_left (resources.has r rs) (is_eq (resource_cmp what r) || false) here
    ]

module _ (who : Enlist) (parts : Parts) where
  part_put : (part : Part) → part_in who (with_part who part parts) ≡ part
  part_put part = ap (λ found. unwrap_or found idle) (lookup_put enlist_total who part parts)

  part_beside : (part : Part) (q : Enlist) → same q who ≡ false → part_in q (with_part who part parts) ≡ part_in q parts
  part_beside part q apart = ap (λ found. unwrap_or found idle) (lookup_beside enlist_total who part q apart parts)

  part_removed : (q : Enlist) → same q who ≡ false → part_in q (without_part who parts) ≡ part_in q parts
  part_removed q apart = ap (λ found. unwrap_or found idle) (lookup_left enlist_total q who apart parts)

  asks_given : (what : Resource) (q : Enlist) → (part_in q (with_part who (given what (part_in who parts)) parts)).asks ≡ (part_in q parts).asks
  asks_given what q = by_test (same q who) refl
    where
      by_test : (b : Bool) → same q who ≡ b → (part_in q (with_part who (given what (part_in who parts)) parts)).asks ≡ (part_in q parts).asks
      by_test true e =
          let is : q ≡ who = same_is q who e in
          ap (λ w. (part_in w (with_part who (given what (part_in who parts)) parts)).asks) is
          ∙ ap (λ (part : Part). part.asks) (part_put (given what (part_in who parts)))
          ∙ ap (λ w. (part_in w parts).asks) (sym is)
      by_test false e = ap (λ (part : Part). part.asks) (part_beside (given what (part_in who parts)) q e)

  asks_more : (what r : Resource) (q : Enlist) → resources.has r (part_in q parts).asks ≡ true → resources.has r (part_in q (with_part who (asked what (part_in who parts)) parts)).asks ≡ true
  asks_more what r q here = by_test (same q who) refl
    where
      by_test : (b : Bool) → same q who ≡ b → resources.has r (part_in q (with_part who (asked what (part_in who parts)) parts)).asks ≡ true
      by_test true e =
          let is : q ≡ who = same_is q who e in
          ap (λ w. resources.has r (part_in w (with_part who (asked what (part_in who parts)) parts)).asks) is
          ∙ ap (λ (part : Part). resources.has r part.asks) (part_put (asked what (part_in who parts)))
          ∙ noted_more what r (part_in who parts).asks (ap (λ w. resources.has r (part_in w parts).asks) (sym is) ∙ here)
      by_test false e = ap (λ (part : Part). resources.has r part.asks) (part_beside (asked what (part_in who parts)) q e) ∙ here

  asks_here : (what : Resource) → resources.has what (part_in who (with_part who (asked what (part_in who parts)) parts)).asks ≡ true
  asks_here what = ap (λ (part : Part). resources.has what part.asks) (part_put (asked what (part_in who parts))) ∙ noted_has what (part_in who parts).asks

-- ---- only what was asked for

abbrev Covers : Locks → Type 0
Covers locks = (q : Enlist) (r : Resource) → has_claim q (lock_of r locks) ≡ true → resources.has r (part_of q locks).asks ≡ true

asked_covers : (who : Enlist) (what : Resource) (locks : Locks) → Covers locks → Covers (note_ask who what locks)
asked_covers who what locks covers = λ q r h. asks_more who locks.parts what r q (covers q r h)

given_covers : (who : Enlist) (what : Resource) (locks : Locks) → Covers locks → Covers (note_grant who what locks)
given_covers who what locks covers = λ q r h. ap (resources.has r) (asks_given who locks.parts what q) ∙ covers q r h

-- a lock changed at a resource that whoever has a new claim asked for
changed_covers : (what : Resource) (lock : Lock) (locks : Locks) → Covers locks
    → ((q : Enlist) → has_claim q lock ≡ true → (resources.has what (part_of q locks).asks ≡ true) ⊎ (has_claim q (lock_of what locks) ≡ true))
    → (q : Enlist) (r : Resource) → has_claim q (lock_in r (with_lock what lock locks.table)) ≡ true → resources.has r (part_of q locks).asks ≡ true
changed_covers what lock locks covers says q r h = ⊎_elim at_what beside (same_or_apart r what)
  where
    at_what : r ≡ what → resources.has r (part_of q locks).asks ≡ true
    at_what is =
        let here : has_claim q lock ≡ true =
        ap (has_claim q) (sym (lock_put what lock locks.table)) ∙ ap (λ s. has_claim q (lock_in s (with_lock what lock locks.table))) (sym is) ∙ h in
        ap (λ s. resources.has s (part_of q locks).asks) is ∙ ⊎_elim (λ new. new) (λ old. covers q what old) (says q here)

    beside : is_eq (resource_cmp r what) ≡ false → resources.has r (part_of q locks).asks ≡ true
    beside apart = covers q r (ap (has_claim q) (sym (lock_beside what lock locks.table r apart)) ∙ h)

taken_covers : (what : Resource) (claim : Claim) (locks : Locks) → Covers locks → resources.has what (part_of claim.who locks).asks ≡ true → Covers (take_lock what claim locks)
taken_covers what claim locks covers here = changed_covers what (taken_in claim (lock_of what locks)) locks covers says
  where
    says : (q : Enlist) → has_claim q (taken_in claim (lock_of what locks)) ≡ true → (resources.has what (part_of q locks).asks ≡ true) ⊎ (has_claim q (lock_of what locks) ≡ true)
    says q h =
        let lock : Lock = lock_of what locks in
        ⊎_elim
        (λ holds. ⊎_elim (λ own. inl (ap (λ w. resources.has what (part_of w locks).asks) (same_is q claim.who own) ∙ here)) (λ old. inr (or_left (has q lock.holders) (has q lock.queue) old))
        (granted_back claim lock.holders q holds))
        (λ waits. inr (or_right (has q lock.holders) (has q lock.queue) waits))
        (or_cases (has q (granted claim lock.holders)) (has q lock.queue) h)

enqueued_covers : (what : Resource) (claim : Claim) (locks : Locks) → Covers locks → resources.has what (part_of claim.who locks).asks ≡ true → Covers (wait_for what claim locks)
enqueued_covers what claim locks covers here = changed_covers what (enqueued claim (lock_of what locks)) locks covers says
  where
    says : (q : Enlist) → has_claim q (enqueued claim (lock_of what locks)) ≡ true → (resources.has what (part_of q locks).asks ≡ true) ⊎ (has_claim q (lock_of what locks) ≡ true)
    says q h =
        let lock : Lock = lock_of what locks in
        ⊎_elim
        (λ holds. inr (or_left (has q lock.holders) (has q lock.queue) holds))
        (λ waits. ⊎_elim (λ own. inl (ap (λ w. resources.has what (part_of w locks).asks) (same_is q claim.who own) ∙ here)) (λ old. inr (or_right (has q lock.holders) (has q lock.queue) old))
        (any_insert_back (is_by q) claim (place claim lock) lock.queue waits))
        (or_cases (has q lock.holders) (has q (insert lock.queue (place claim lock) claim)) h)

grant_covers : (what : Resource) (claim : Claim) (locks : Locks) → Covers locks → Covers (grant what claim locks)
grant_covers what claim locks covers =
    let noted_locks : Locks = note_ask claim.who what locks in
    taken_covers what claim (note_grant claim.who what noted_locks) (given_covers claim.who what noted_locks (asked_covers claim.who what locks covers))
    (ap (resources.has what) (asks_given claim.who noted_locks.parts what claim.who) ∙ asks_here claim.who locks.parts what)

asks_cover : (v : Verdict) (what : Resource) (claim : Claim) (locks : Locks) → Covers locks → Covers (ask_by v what claim locks).1
asks_cover verdicts.Covered what claim locks covers = covers
asks_cover verdicts.Free what claim locks covers = grant_covers what claim locks covers
asks_cover (verdicts.Blocked holder) what claim locks covers =
    enqueued_covers what claim (note_ask claim.who what locks) (asked_covers claim.who what locks covers) (asks_here claim.who locks.parts what)

-- ---- a tick

ended_covers : (wait : Wait) (locks : Locks) → Covers locks → (holder : Option Enlist) → Covers (ended_by wait holder locks).1
ended_covers wait locks covers None = covers
ended_covers wait locks covers (Some holder) =
    λ q r h. covers q r (dequeued_back wait.what wait.who locks.table (lookup (is_at (resource_cmp wait.what)) locks.table) refl q r h)

first_covers : (locks : Locks) → Covers locks → (first : Option Wait) → Covers (end_first first locks).1
first_covers locks covers None = covers
first_covers locks covers (Some wait) = ended_covers wait locks covers (holder_of wait.what wait.who locks)

-- ---- a release

end_waits_asks : (what : Resource) (granted : List Enlist) (locks : Locks) (q : Enlist) → (part_of q (end_waits what granted locks)).asks ≡ (part_of q locks).asks
end_waits_asks what [] locks q = refl
end_waits_asks what (who ∷ more) locks q = end_waits_asks what more (end_wait what who locks) q ∙ asks_given who locks.parts what q

apart_resources : (r what : Resource) → is_eq (resource_cmp r what) ≡ false → is_eq (resource_cmp what r) ≡ false
apart_resources r what apart = ⊎_elim (λ is. absurd (true≢false (sym (ap is_eq (tied_itself resource_total r)) ∙ ap (λ s. is_eq (resource_cmp r s)) (sym is) ∙ apart))) (λ e. e) (same_or_apart what r)

-- what is left of a release that goes through these resources: others have asked for what they claim, and the enlistment has claims
-- at these resources alone
pub record IsLeaving (who : Enlist) (asks : List Resource) (locks : Locks) : Type 0 where
  pub sorted : IsSorted locks.table
  pub others : (q : Enlist) → same q who ≡ false → (r : Resource) → has_claim q (lock_of r locks) ≡ true → resources.has r (part_of q locks).asks ≡ true
  pub own : (r : Resource) → has_claim who (lock_of r locks) ≡ true → resources.has r asks ≡ true

leaving_more : (who : Enlist) (what : Resource) (more : List Resource) (locks : Locks) (before : List Enlist) → IsLeaving who (what ∷ more) locks → IsLeaving who more (release_at who what locks before).0
leaving_more who what more locks before leaving = record {
  sorted = subst IsSorted (sym same_table) (sorted_left what lock_left locks.table leaving.sorted);
  others = λ q apart r h.
      ap (resources.has r) (end_waits_asks what out.1 changed q)
      ∙ ⊎_elim
      (λ is. ap (λ s. resources.has s (part_of q locks).asks) is ∙ leaving.others q apart what (released_back who (lock_of what locks) q (at_what q r h is)))
      (λ beside. leaving.others q apart r (at_other q r h beside)) (same_or_apart r what);
  own = λ r h.
      ⊎_elim (λ is. absurd (released_gone who (lock_of what locks) (at_what who r h is)))
      (λ beside. sym (ap (λ b. b || resources.has r more) (apart_resources r what beside)) ∙ leaving.own r (at_other who r h beside)) (same_or_apart r what);
}
  where
    lock_left : Lock
    lock_left = (released who (lock_of what locks) []).0

    out : Table × List Enlist
    out = released_in who what locks.table

    changed : Locks
    changed = record locks { table = out.0 }

    same_table : (release_at who what locks before).0.table ≡ (released_in who what locks.table).0
    same_table = end_waits_table what (released_in who what locks.table).1 (record locks { table = (released_in who what locks.table).0 })

    at_what : (q : Enlist) (r : Resource) → has_claim q (lock_of r (release_at who what locks before).0) ≡ true → r ≡ what → has_claim q (released who (lock_of what locks) []).0 ≡ true
    at_what q r h is =
        ap (has_claim q) (sym (left_at what (released who (lock_of what locks) []).0 locks.table leaving.sorted))
        ∙ ap (λ s. has_claim q (lock_in s (released_in who what locks.table).0)) (sym is)
        ∙ ap (λ table. has_claim q (lock_in r table)) (sym same_table) ∙ h

    at_other : (q : Enlist) (r : Resource) → has_claim q (lock_of r (release_at who what locks before).0) ≡ true → is_eq (resource_cmp r what) ≡ false → has_claim q (lock_of r locks) ≡ true
    at_other q r h beside =
        ap (has_claim q) (sym (left_beside what (released who (lock_of what locks) []).0 locks.table r beside)) ∙ ap (λ table. has_claim q (lock_in r table)) (sym same_table) ∙ h

leaving_each : (who : Enlist) (asks : List Resource) (locks : Locks) (before : List Enlist) → IsLeaving who asks locks → IsLeaving who [] (release_each who asks locks before).0
leaving_each who [] locks before leaving = leaving
leaving_each who (what ∷ more) locks before leaving =
    let next = release_at who what locks before in
    leaving_each who more next.0 next.1 (leaving_more who what more locks before leaving)

left_leaving : (who : Enlist) (locks : Locks) → IsSorted locks.table → Covers locks → IsLeaving who (part_of who locks).asks (left who locks)
left_leaving who locks up covers = record {
  sorted = up;
  others = λ q apart r h. ap (λ (part : Part). resources.has r part.asks) (part_removed who locks.parts q apart) ∙ covers q r h;
  own = λ r h. covers who r h;
}

pub released_leaving : (who : Enlist) (locks : Locks) → IsSorted locks.table → Covers locks → IsLeaving who [] (release who locks).0
released_leaving who locks up covers = leaving_each who (part_of who locks).asks (left who locks) [] (left_leaving who locks up covers)

released_covers : (who : Enlist) (locks : Locks) → IsSorted locks.table → Covers locks → Covers (release who locks).0
released_covers who locks up covers q r h = by_test (same q who) refl
  where
    by_test : (b : Bool) → same q who ≡ b → resources.has r (part_of q (release who locks).0).asks ≡ true
    by_test true e =
        absurd (false≢true ((released_leaving who locks up covers).own r (ap (λ w. has_claim w (lock_of r (release who locks).0)) (sym (same_is q who e)) ∙ h)))
    by_test false e = (released_leaving who locks up covers).others q e r h

-- ---- every list of calls

pub record IsCovered (locks : Locks) : Type 0 where
  pub kept : IsKept locks
  pub covers : (q : Enlist) (r : Resource) → has_claim q (lock_of r locks) ≡ true → resources.has r (part_of q locks).asks ≡ true

called_covers : (call : Call) (locks : Locks) → IsCovered locks → Covers (called call locks)
called_covers (Ask who what mode) locks covered = asks_cover (verdict (record { who = who; mode = mode }) (lock_of what locks)) what (record { who = who; mode = mode }) locks covered.covers
called_covers (Hold who what mode) locks covered =
    let claim : Claim = record { who = who; mode = mode } in
    elim (is_covered claim (lock_of what locks).holders) as (λ b. Covers (cond b locks (grant what claim locks))) [ true ↦ covered.covers | false ↦ grant_covers what claim locks covered.covers ]
called_covers (Release who) locks covered = released_covers who locks covered.kept.sorted covered.covers
called_covers Tick locks covered = first_covers (age locks) covered.covers (first_over (age locks).waits)

pub covered_call : (call : Call) (locks : Locks) → IsCovered locks → IsCovered (called call locks)
covered_call call locks covered = record { kept = called_kept call locks covered.kept; covers = called_covers call locks covered }

run_covered : (calls : List Call) (locks : Locks) → IsCovered locks → IsCovered (run calls locks)
run_covered [] locks covered = covered
run_covered (call ∷ more) locks covered =
    run_covered more (step call locks) (elim (may_come call locks) as (λ b. IsCovered (cond b (called call locks) locks)) [ true ↦ covered_call call locks covered | false ↦ covered ])

pub none_covered : IsCovered no_locks
none_covered = record { kept = none_kept; covers = λ q r h. absurd (false≢true h) }

all_covered : (calls : List Call) → IsCovered (after calls)
all_covered calls = run_covered calls no_locks none_covered

pub asked_for : AskedFor
asked_for calls who what h = (all_covered calls).covers who what h

pub leaves_nothing : LeavesNothing
leaves_nothing calls who what h =
    let covered = all_covered calls in
    false≢true ((released_leaving who (after calls) covered.kept.sorted covered.covers).own what h)
