-- Each claim of a queue is a wait whose ticks are counted, and no enlistment waits twice.
use Rattle.std.proofs.Common.{◌≡◌, ◌⊎◌, Bool, true, false, not, ◌&&◌, ◌||◌, cond, List, [], ◌∷◌, ◌++◌, map, filter, Option, Some, None, refl, sym, ap, ◌∙◌, inl, inr, ⊎_elim, subst}
use Rattle.std.specs.Prelude.{unwrap_or}
use Rattle.std.specs.BTreeMap.{is_at}
use Rattle.std.specs.List.{insert, list_all, list_any}
use Rattle.std.specs.Map.{lookup}
use Rattle.std.specs.Ordering.{is_eq}
use Rattle.std.proofs.lemmas.Bool.{and_parts, and_from, or_cases, or_parts, or_from, or_left, or_right, not_from_false, not-true, true≢false, false≢true}
use Rattle.std.proofs.lemmas.Cmp.{tied_itself}
use Rattle.std.proofs.lemmas.List.Elements.{All-nil}
use Rattle.std.proofs.lemmas.List.Folds.{list_any-append}
use Rattle.rs_base.specs.declared.lock.Resource.{Resource}
use Rattle.rs_base.specs.declared.txn.Enlist.{Enlist}
use Rattle.rs_base.specs.Orders.{resource_cmp}
use Rattle.rs_lock.specs.declared.claim.Claim.{Claim}
use Rattle.rs_lock.specs.declared.verdict.Verdict.{Verdict}
use Rattle.rs_lock.specs.declared.verdict.Verdict.TheVariants as verdicts
use Rattle.rs_lock.specs.declared.wait.Wait.{Wait}
use Rattle.rs_lock.specs.Calls.{lock_of, part_of, is_waiting, grant, enqueue, ask_by, end_wait, end_waits, release_at, release_each, release, left, age, end_first, ended_by, give_up, holder_of}
use Rattle.rs_lock.specs.Claims.{same, is_by, has, without, is_refused, is_covered}
use Rattle.rs_lock.specs.Courses.{Call, Ask, Hold, Release, Tick, may_come, called, step, run}
use Rattle.rs_lock.specs.Laws.{each_once, is_counted, waits_once, QueuedIsCounted, WaitsOnce}
use Rattle.rs_lock.specs.Lock.{Lock, unlocked, verdict, granted, place, enqueued, settled, released, dequeued}
use Rattle.rs_lock.specs.Locks.{Locks, Table, no_locks, lock_in, with_lock, left_lock, with_dequeued, dequeued_in}
use Rattle.rs_lock.specs.Waits.{waits_for, without_wait, aged, is_over, first_over}
use Rattle.rs_lock.proofs.Covering.{any_filter_back, any_insert_back, has_without_self, left_at, IsCovered, covered_call, none_covered, released_leaving}
use Rattle.rs_lock.proofs.Kept.{Each, each_at, each_left, each_called, end_waits_table, not_queued}
use Rattle.rs_lock.proofs.LawProofs.{sound}
use Rattle.rs_lock.proofs.Orders.{resource_total, resource_exact}
use Rattle.rs_lock.proofs.Queues.{IsSound, same_is, apart_back, is_tie, any_filter, once_filter, released_sound}
use Rattle.rs_lock.proofs.Verdicts.{same_self}
use Rattle.rs_lock.proofs.Waiting.{IsSorted, same_or_apart, lock_put, lock_beside, left_beside, sorted_left, queue_taken, queue_dequeued, among, stands_in}

-- ---- tests of lists

any_weaker : {X : Type 0} (p q : X → Bool) → ((x : X) → p x ≡ true → q x ≡ true) → (xs : List X) → list_any p xs ≡ true → list_any q xs ≡ true
any_weaker p q says [] h = h
any_weaker p q says (x ∷ xs) h =
    ⊎_elim (λ here. or_left (q x) (list_any q xs) (says x here)) (λ later. or_right (q x) (list_any q xs) (any_weaker p q says xs later)) (or_cases (p x) (list_any p xs) h)

any_kept : {X : Type 0} (p test : X → Bool) → ((x : X) → p x ≡ true → test x ≡ true) → (xs : List X) → list_any p xs ≡ true → list_any p (filter test xs) ≡ true
any_kept p test says [] h = h
any_kept p test says (x ∷ xs) h =
    elim (test x) as (λ b. test x ≡ b → list_any p (cond b (x ∷ filter test xs) (filter test xs)) ≡ true) [
      | true ↦ λ passes.
          ⊎_elim (λ here. or_left (p x) (list_any p (filter test xs)) here) (λ later. or_right (p x) (list_any p (filter test xs)) (any_kept p test says xs later)) (or_cases (p x) (list_any p xs) h)
      | false ↦ λ fails.
          ⊎_elim (λ here. absurd (true≢false (sym (says x here) ∙ fails))) (λ later. any_kept p test says xs later) (or_cases (p x) (list_any p xs) h)
    ] refl

-- ---- waits

tie_is : (r s : Resource) → is_eq (resource_cmp r s) ≡ true → r ≡ s
tie_is r s e = resource_exact r s (is_tie (resource_cmp r s) e)

pub tie_self : (r : Resource) → is_eq (resource_cmp r r) ≡ true
tie_self r = ap is_eq (tied_itself resource_total r)

abbrev counts : Enlist → Resource → Wait → Bool
counts who what wait = waits_for who wait && is_eq (resource_cmp what wait.what)

pub waits_of : (q : Enlist) (r : Resource) (waits : List Wait) → is_counted q r waits ≡ true → list_any (waits_for q) waits ≡ true
waits_of q r waits h = any_weaker (counts q r) (waits_for q) (λ w both. (and_parts (waits_for q w) (is_eq (resource_cmp r w.what)) both).0) waits h

-- who waits once waits for one resource
only_one : (q : Enlist) (r s : Resource) (waits : List Wait) → waits_once waits ≡ true → is_counted q r waits ≡ true → is_counted q s waits ≡ true → r ≡ s
only_one q r s [] once at_r at_s = absurd (false≢true at_r)
only_one q r s (w ∷ ws) once at_r at_s =
    let parts = and_parts (not (list_any (waits_for w.who) ws)) (waits_once ws) once in
    let none : list_any (waits_for w.who) ws ≡ false = not-true (list_any (waits_for w.who) ws) parts.0 in
    let clash : (t u : Resource) → counts q t w ≡ true → is_counted q u ws ≡ true → ⊥ =
    λ t u here later.
    let own : q ≡ w.who = same_is q w.who (and_parts (waits_for q w) (is_eq (resource_cmp t w.what)) here).0 in
    true≢false (sym (waits_of q u ws later) ∙ ap (λ e. list_any (waits_for e) ws) own ∙ none) in
    ⊎_elim
    (λ a. ⊎_elim
    (λ b. tie_is r w.what (and_parts (waits_for q w) (is_eq (resource_cmp r w.what)) a).1 ∙ sym (tie_is s w.what (and_parts (waits_for q w) (is_eq (resource_cmp s w.what)) b).1))
    (λ b. absurd (clash r s a b)) (or_cases (counts q s w) (is_counted q s ws) at_s))
    (λ a. ⊎_elim (λ b. absurd (clash s r b a)) (λ b. only_one q r s ws parts.1 a b) (or_cases (counts q s w) (is_counted q s ws) at_s))
    (or_cases (counts q r w) (is_counted q r ws) at_r)

counted_without : (q e : Enlist) (r : Resource) (waits : List Wait) → same e q ≡ false → is_counted q r waits ≡ true → is_counted q r (without_wait e waits) ≡ true
counted_without q e r waits apart h =
    any_kept (counts q r) (λ wait. not (waits_for e wait))
    (λ w both.
    let own : q ≡ w.who = same_is q w.who (and_parts (waits_for q w) (is_eq (resource_cmp r w.what)) both).0 in
    not_from_false (waits_for e w) (ap (same e) (sym own) ∙ apart)) waits h

once_without : (test : Wait → Bool) (waits : List Wait) → waits_once waits ≡ true → waits_once (filter test waits) ≡ true
once_without test [] once = refl
once_without test (w ∷ ws) once =
    let parts = and_parts (not (list_any (waits_for w.who) ws)) (waits_once ws) once in
    elim (test w) as (λ b. waits_once (cond b (w ∷ filter test ws) (filter test ws)) ≡ true) [
      | true ↦ and_from (not (list_any (waits_for w.who) (filter test ws))) (waits_once (filter test ws))
          (not_from_false (list_any (waits_for w.who) (filter test ws)) (any_filter (waits_for w.who) test ws (not-true (list_any (waits_for w.who) ws) parts.0))) (once_without test ws parts.1)
      | false ↦ once_without test ws parts.1
    ]

once_push : (waits : List Wait) (w : Wait) → waits_once waits ≡ true → list_any (waits_for w.who) waits ≡ false → waits_once (waits ++ w ∷ []) ≡ true
once_push [] w once none = refl
once_push (d ∷ ds) w once none =
    let parts = and_parts (not (list_any (waits_for d.who) ds)) (waits_once ds) once in
    let away = or_parts (waits_for w.who d) (list_any (waits_for w.who) ds) none in
    let later : list_any (waits_for d.who) (ds ++ w ∷ []) ≡ false =
    list_any-append (waits_for d.who) ds (w ∷ [])
    ∙ or_from (list_any (waits_for d.who) ds) (waits_for d.who w || false) (not-true (list_any (waits_for d.who) ds) parts.0)
    (or_from (waits_for d.who w) false (apart_back w.who d.who away.0) refl) in
    and_from (not (list_any (waits_for d.who) (ds ++ w ∷ []))) (waits_once (ds ++ w ∷ [])) (not_from_false (list_any (waits_for d.who) (ds ++ w ∷ [])) later) (once_push ds w parts.1 away.1)

aged_any : (p : Wait → Bool) → ((w : Wait) → p (aged w) ≡ p w) → (waits : List Wait) → list_any p (map aged waits) ≡ list_any p waits
aged_any p says [] = refl
aged_any p says (w ∷ ws) = ap (λ b. b || list_any p (map aged ws)) (says w) ∙ ap (λ b. p w || b) (aged_any p says ws)

aged_once : (waits : List Wait) → waits_once (map aged waits) ≡ waits_once waits
aged_once [] = refl
aged_once (w ∷ ws) =
    ap (λ b. not b && waits_once (map aged ws)) (aged_any (waits_for w.who) (λ v. refl) ws) ∙ ap (λ b. not (list_any (waits_for w.who) ws) && b) (aged_once ws)

-- ---- the locks

record IsCounted (locks : Locks) : Type 0 where
  pub once : waits_once locks.waits ≡ true
  pub counted : (q : Enlist) (r : Resource) → has q (lock_of r locks).queue ≡ true → is_counted q r locks.waits ≡ true

grant_counted : (what : Resource) (claim : Claim) (locks : Locks) → IsCounted locks → IsCounted (grant what claim locks)
grant_counted what claim locks before = record { once = before.once; counted = λ q r h. before.counted q r (sym (queue_taken what claim locks.table q r) ∙ h) }

-- who stands in no queue has no wait
pub lacks : (who : Enlist) (table : Table) → ((r : Resource) → has who (lock_in r table).queue ≡ false) → (waits : List Wait) → list_all (stands_in table) waits ≡ true → list_any (waits_for who) waits ≡ false
lacks who table none [] all = refl
lacks who table none (w ∷ ws) all =
    let parts = and_parts (stands_in table w) (list_all (stands_in table) ws) all in
    or_from (waits_for who w) (list_any (waits_for who) ws)
    (elim (waits_for who w) as (λ b. waits_for who w ≡ b → b ≡ false) [
      | true ↦ λ e. absurd (true≢false (sym parts.0 ∙ ap (λ q. has q (lock_in w.what table).queue) (sym (same_is who w.who e)) ∙ none w.what))
      | false ↦ λ e. refl
    ] refl) (lacks who table none ws parts.1)

enqueue_counted : (what : Resource) (claim : Claim) (locks : Locks) → list_any (waits_for claim.who) locks.waits ≡ false → IsCounted locks → IsCounted (enqueue what claim locks)
enqueue_counted what claim locks none before = record {
  once = once_push locks.waits wait before.once none;
  counted = λ q r h. list_any-append (counts q r) locks.waits (wait ∷ []) ∙ ⊎_elim (at_what q r h) (beside q r h) (same_or_apart r what);
}
  where
    wait : Wait
    wait = record { who = claim.who; what = what; ticks = 0 }

    new : Table
    new = with_lock what (enqueued claim (lock_of what locks)) locks.table

    at_what : (q : Enlist) (r : Resource) → has q (lock_in r (with_lock what (enqueued claim (lock_of what locks)) locks.table)).queue ≡ true → r ≡ what
        → (is_counted q r locks.waits || (counts q r (record { who = claim.who; what = what; ticks = 0 }) || false)) ≡ true
    at_what q r h is =
        let here : has q (insert (lock_of what locks).queue (place claim (lock_of what locks)) claim) ≡ true =
        ap (λ (l : Lock). has q l.queue) (sym (lock_put what (enqueued claim (lock_of what locks)) locks.table))
        ∙ ap (λ s. has q (lock_in s (with_lock what (enqueued claim (lock_of what locks)) locks.table)).queue) (sym is) ∙ h in
        let mine : Bool = counts q r (record { who = claim.who; what = what; ticks = 0 }) in
        ⊎_elim
        (λ own. or_right (is_counted q r locks.waits) (mine || false) (or_left mine false (and_from (same q claim.who) (is_eq (resource_cmp r what)) own (ap (λ s. is_eq (resource_cmp s what)) is ∙ tie_self what))))
        (λ old. or_left (is_counted q r locks.waits) (mine || false) (ap (λ s. is_counted q s locks.waits) is ∙ before.counted q what old))
        (any_insert_back (is_by q) claim (place claim (lock_of what locks)) (lock_of what locks).queue here)

    beside : (q : Enlist) (r : Resource) → has q (lock_in r (with_lock what (enqueued claim (lock_of what locks)) locks.table)).queue ≡ true → is_eq (resource_cmp r what) ≡ false
        → (is_counted q r locks.waits || (counts q r (record { who = claim.who; what = what; ticks = 0 }) || false)) ≡ true
    beside q r h apart =
        or_left (is_counted q r locks.waits) (counts q r (record { who = claim.who; what = what; ticks = 0 }) || false)
        (before.counted q r (ap (λ (l : Lock). has q l.queue) (sym (lock_beside what (enqueued claim (lock_of what locks)) locks.table r apart)) ∙ h))

ask_counted : (v : Verdict) (what : Resource) (claim : Claim) (locks : Locks) → list_any (waits_for claim.who) locks.waits ≡ false → IsCounted locks → IsCounted (ask_by v what claim locks).1
ask_counted verdicts.Covered what claim locks none before = before
ask_counted verdicts.Free what claim locks none before = grant_counted what claim locks before
ask_counted (verdicts.Blocked holder) what claim locks none before = enqueue_counted what claim locks none before

-- ---- a tick

found_any : (p : Wait → Bool) (waits : List Wait) (wait : Wait) → first_over waits ≡ Some wait → p wait ≡ true → list_any p waits ≡ true
found_any p [] wait e here = cc
found_any p (w ∷ ws) wait e here =
    elim (is_over w) as (λ b. cond b (Some w) (first_over ws) ≡ Some wait → (p w || list_any p ws) ≡ true) [
      | true ↦ λ h. or_left (p w) (list_any p ws) (ap p (some_is h) ∙ here)
      | false ↦ λ h. or_right (p w) (list_any p ws) (found_any p ws wait h here)
    ] e
  where
    some_is : {A : Type 0} {x y : A} → Some x ≡ Some y → x ≡ y
    some_is e = cc

dequeued_gone : (what : Resource) (who : Enlist) (table : Table) (found : Option Lock) → lookup (is_at (resource_cmp what)) table ≡ found → has who (lock_in what (with_dequeued what who found table)).queue ≡ true → ⊥
dequeued_gone what who table None is h = true≢false (sym h ∙ ap (λ there. has who (unwrap_or there unlocked).queue) is)
dequeued_gone what who table (Some lock) is h =
    true≢false (sym h ∙ ap (λ (l : Lock). has who l.queue) (lock_put what (dequeued who lock) table) ∙ has_without_self who lock.queue)

dequeued_beside : (what : Resource) (who : Enlist) (table : Table) (found : Option Lock) (r : Resource) → is_eq (resource_cmp r what) ≡ false → lock_in r (with_dequeued what who found table) ≡ lock_in r table
dequeued_beside what who table None r apart = refl
dequeued_beside what who table (Some lock) r apart = lock_beside what (dequeued who lock) table r apart

give_up_counted : (wait : Wait) (locks : Locks) → is_counted wait.who wait.what locks.waits ≡ true → IsCounted locks → IsCounted (give_up wait locks)
give_up_counted wait locks own before = record {
  once = once_without (λ w. not (waits_for wait.who w)) locks.waits before.once;
  counted = λ q r h.
      let found : Option Lock = lookup (is_at (resource_cmp wait.what)) locks.table in
      elim (same wait.who q) as (λ b. same wait.who q ≡ b → is_counted q r (without_wait wait.who locks.waits) ≡ true) [
        | true ↦ λ e. absurd (gone r (ap (λ w. has w (lock_in r (dequeued_in wait.what wait.who locks.table)).queue) (same_is wait.who q e) ∙ h))
        | false ↦ λ e.
            counted_without q wait.who r locks.waits e (before.counted q r (sym (queue_dequeued wait.what wait.who locks.table found refl q e r) ∙ h))
      ] refl;
}
  where
    gone : (r : Resource) → has wait.who (lock_in r (dequeued_in wait.what wait.who locks.table)).queue ≡ true → ⊥
    gone r h =
        ⊎_elim
        (λ is. dequeued_gone wait.what wait.who locks.table (lookup (is_at (resource_cmp wait.what)) locks.table) refl (ap (λ s. has wait.who (lock_in s (dequeued_in wait.what wait.who locks.table)).queue) (sym is) ∙ h))
        (λ apart.
        let old : has wait.who (lock_of r locks).queue ≡ true =
        ap (λ (l : Lock). has wait.who l.queue) (sym (dequeued_beside wait.what wait.who locks.table (lookup (is_at (resource_cmp wait.what)) locks.table) r apart)) ∙ h in
        let one : r ≡ wait.what = only_one wait.who r wait.what locks.waits before.once (before.counted wait.who r old) own in
        true≢false (sym (ap (λ s. is_eq (resource_cmp s wait.what)) one ∙ tie_self wait.what) ∙ apart))
        (same_or_apart r wait.what)

ended_counted : (wait : Wait) (locks : Locks) → is_counted wait.who wait.what locks.waits ≡ true → IsCounted locks → (holder : Option Enlist) → IsCounted (ended_by wait holder locks).1
ended_counted wait locks own before None = before
ended_counted wait locks own before (Some holder) = give_up_counted wait locks own before

first_counted : (locks : Locks) → IsCounted locks → (first : Option Wait) → first_over locks.waits ≡ first → IsCounted (end_first first locks).1
first_counted locks before None is = before
first_counted locks before (Some wait) is =
    ended_counted wait locks (found_any (counts wait.who wait.what) locks.waits wait is (and_from (waits_for wait.who wait) (is_eq (resource_cmp wait.what wait.what)) (same_self wait.who) (tie_self wait.what)))
    before (holder_of wait.what wait.who locks)

aged_counted : (locks : Locks) → IsCounted locks → IsCounted (age locks)
aged_counted locks before = record {
  once = aged_once locks.waits ∙ before.once;
  counted = λ q r h. aged_any (counts q r) (λ w. refl) locks.waits ∙ before.counted q r h;
}

-- ---- a release

settled_queue_back : (holders queue : List Claim) (before : List Enlist) (q : Enlist) → has q (settled holders queue before).0.queue ≡ true → has q queue ≡ true
settled_queue_back holders [] before q h = h
settled_queue_back holders (c ∷ queue) before q h =
    let out : Bool → Lock × List Enlist = λ b. cond b (record { holders = holders; queue = c ∷ queue }, before) (settled (granted c holders) queue (before ++ c.who ∷ [])) in
    elim (is_refused c holders) as (λ b. has q (out b).0.queue ≡ true → (is_by q c || has q queue) ≡ true)
    [ true ↦ λ e. e | false ↦ λ e. or_right (is_by q c) (has q queue) (settled_queue_back (granted c holders) queue (before ++ c.who ∷ []) q e) ] h

settled_among : (holders queue : List Claim) (before : List Enlist) (q : Enlist) → among q (settled holders queue before).1 ≡ true → (among q before ≡ true) ⊎ (has q queue ≡ true)
settled_among holders [] before q h = inl h
settled_among holders (c ∷ queue) before q h =
    let out : Bool → Lock × List Enlist = λ b. cond b (record { holders = holders; queue = c ∷ queue }, before) (settled (granted c holders) queue (before ++ c.who ∷ [])) in
    elim (is_refused c holders) as (λ b. among q (out b).1 ≡ true → (among q before ≡ true) ⊎ ((is_by q c || has q queue) ≡ true)) [
      | true ↦ λ e. inl e
      | false ↦ λ e.
          ⊎_elim
          (λ now. ⊎_elim (λ old. inl old)
          (λ new. ⊎_elim (λ own. inr (or_left (is_by q c) (has q queue) (ap (λ w. same w c.who) (sym (same_is c.who q own)) ∙ same_self c.who))) (λ none. absurd (false≢true none)) (or_cases (same c.who q) false new))
          (or_cases (among q before) (same c.who q || false) (sym (list_any-append (λ e. same e q) before (c.who ∷ [])) ∙ now)))
          (λ later. inr (or_right (is_by q c) (has q queue) later))
          (settled_among (granted c holders) queue (before ++ c.who ∷ []) q e)
    ] h

-- who still stands in the queue wasn't granted
settled_apart : (holders queue : List Claim) (before : List Enlist) (q : Enlist) → each_once queue ≡ true → has q (settled holders queue before).0.queue ≡ true → among q (settled holders queue before).1 ≡ true
    → among q before ≡ true
settled_apart holders [] before q once h granted_too = absurd (false≢true h)
settled_apart holders (c ∷ queue) before q once h granted_too =
    let parts = and_parts (not (has c.who queue)) (each_once queue) once in
    let out : Bool → Lock × List Enlist = λ b. cond b (record { holders = holders; queue = c ∷ queue }, before) (settled (granted c holders) queue (before ++ c.who ∷ [])) in
    elim (is_refused c holders) as (λ b. has q (out b).0.queue ≡ true → among q (out b).1 ≡ true → among q before ≡ true) [
      | true ↦ λ stays e. e
      | false ↦ λ stays e.
          ⊎_elim (λ old. old)
          (λ new. ⊎_elim
          (λ own. absurd (true≢false (
          sym (settled_queue_back (granted c holders) queue (before ++ c.who ∷ []) q stays) ∙ ap (λ w. has w queue) (sym (same_is c.who q own)) ∙ not-true (has c.who queue) parts.0)))
          (λ none. absurd (false≢true none)) (or_cases (same c.who q) false new))
          (or_cases (among q before) (same c.who q || false)
          (sym (list_any-append (λ e. same e q) before (c.who ∷ [])) ∙ settled_apart (granted c holders) queue (before ++ c.who ∷ []) q parts.1 stays e))
    ] h granted_too

counted_end_waits : (what : Resource) (granted : List Enlist) (locks : Locks) (q : Enlist) (r : Resource) → among q granted ≡ false → is_counted q r locks.waits ≡ true → is_counted q r (end_waits what granted locks).waits ≡ true
counted_end_waits what [] locks q r none h = h
counted_end_waits what (e ∷ es) locks q r none h =
    let parts = or_parts (same e q) (among q es) none in
    counted_end_waits what es (end_wait what e locks) q r parts.1 (counted_without q e r locks.waits parts.0 h)

once_end_waits : (what : Resource) (granted : List Enlist) (locks : Locks) → waits_once locks.waits ≡ true → waits_once (end_waits what granted locks).waits ≡ true
once_end_waits what [] locks once = once
once_end_waits what (e ∷ es) locks once = once_end_waits what es (end_wait what e locks) (once_without (λ w. not (waits_for e w)) locks.waits once)

false_by : (b : Bool) → (b ≡ true → ⊥) → b ≡ false
false_by true no_way = absurd (no_way refl)
false_by false no_way = refl

record IsReleasing (who : Enlist) (locks : Locks) : Type 0 where
  pub sorted : IsSorted locks.table
  pub sound : Each IsSound locks.table
  pub once : waits_once locks.waits ≡ true
  pub counted : (q : Enlist) → same q who ≡ false → (r : Resource) → has q (lock_of r locks).queue ≡ true → is_counted q r locks.waits ≡ true

sound_base : IsSound unlocked
sound_base = record { once = refl; first = refl; blocked = refl }

releasing_more : (who : Enlist) (what : Resource) (locks : Locks) (before : List Enlist) → IsReleasing who locks → IsReleasing who (release_at who what locks before).0
releasing_more who what locks before now =
    let lock : Lock = lock_of what locks in
    let lock_sound : IsSound lock = each_at IsSound sound_base what locks.table now.sound in
    let out : Lock × List Enlist = released who lock [] in
    let table : Table = left_lock what out.0 locks.table in
    let changed : Locks = record locks { table = table } in
    let next : Locks = (release_at who what locks before).0 in
    let same_table : next.table ≡ table = end_waits_table what out.1 changed in
    let test : Claim → Bool = λ claim. not (is_by who claim) in
    record {
      sorted = subst IsSorted (sym same_table) (sorted_left what out.0 locks.table now.sorted);
      sound = subst (Each IsSound) (sym same_table) (each_left IsSound what out.0 locks.table now.sound (released_sound who lock lock_sound));
      once = once_end_waits what out.1 changed now.once;
      counted = λ q apart r h.
          let here : has q (lock_in r table).queue ≡ true = ap (λ t. has q (lock_in r t).queue) (sym same_table) ∙ h in
          ⊎_elim
          (λ is.
          let stays : has q out.0.queue ≡ true =
          ap (λ (l : Lock). has q l.queue) (sym (left_at what out.0 locks.table now.sorted)) ∙ ap (λ s. has q (lock_in s table).queue) (sym is) ∙ here in
          let old : has q lock.queue ≡ true = any_filter_back (is_by q) test lock.queue (settled_queue_back (without who lock.holders) (without who lock.queue) [] q stays) in
          let not_granted : among q out.1 ≡ false =
          false_by (among q out.1) (λ e. false≢true (settled_apart (without who lock.holders) (without who lock.queue) [] q (once_filter test lock.queue lock_sound.once) stays e)) in
          counted_end_waits what out.1 changed q r not_granted (ap (λ s. is_counted q s locks.waits) is ∙ now.counted q apart what old))
          (λ beside.
          let old : has q (lock_of r locks).queue ≡ true = ap (λ (l : Lock). has q l.queue) (sym (left_beside what out.0 locks.table r beside)) ∙ here in
          let own : is_counted q r locks.waits ≡ true = now.counted q apart r old in
          let not_granted : among q out.1 ≡ false =
          false_by (among q out.1)
          (λ e. ⊎_elim (λ none. false≢true none)
          (λ queued.
          let there : is_counted q what locks.waits ≡ true = now.counted q apart what (any_filter_back (is_by q) test lock.queue queued) in
          let one : r ≡ what = only_one q r what locks.waits now.once own there in
          true≢false (sym (ap (λ s. is_eq (resource_cmp s what)) one ∙ tie_self what) ∙ beside))
          (settled_among (without who lock.holders) (without who lock.queue) [] q e)) in
          counted_end_waits what out.1 changed q r not_granted own)
          (same_or_apart r what);
    }

releasing_each : (who : Enlist) (asks : List Resource) (locks : Locks) (before : List Enlist) → IsReleasing who locks → IsReleasing who (release_each who asks locks before).0
releasing_each who [] locks before now = now
releasing_each who (what ∷ more) locks before now =
    let next = release_at who what locks before in
    releasing_each who more next.0 next.1 (releasing_more who what locks before now)

release_counted : (who : Enlist) (locks : Locks) → IsCovered locks → Each IsSound locks.table → IsCounted locks → IsCounted (release who locks).0
release_counted who locks covered sounds before =
    let start : IsReleasing who (left who locks) = record {
      sorted = covered.kept.sorted;
      sound = sounds;
      once = once_without (λ w. not (waits_for who w)) locks.waits before.once;
      counted = λ q apart r h. counted_without q who r locks.waits (apart_back q who apart) (before.counted q r h);
    } in
    let end : IsReleasing who (release who locks).0 = releasing_each who (part_of who locks).asks (left who locks) [] start in
    record {
      once = end.once;
      counted = λ q r h.
          elim (same q who) as (λ b. same q who ≡ b → is_counted q r (release who locks).0.waits ≡ true) [
            | true ↦ λ e.
                let mine : has who (lock_of r (release who locks).0).queue ≡ true = ap (λ w. has w (lock_of r (release who locks).0).queue) (sym (same_is q who e)) ∙ h in
                absurd (false≢true ((released_leaving who locks covered.kept.sorted covered.covers).own r (or_right (has who (lock_of r (release who locks).0).holders) (has who (lock_of r (release who locks).0).queue) mine)))
            | false ↦ λ e. end.counted q e r h
          ] refl;
    }

-- ---- every list of calls

record IsWhole (locks : Locks) : Type 0 where
  pub covered : IsCovered locks
  pub sounds : Each IsSound locks.table
  pub counted : IsCounted locks

called_counted : (call : Call) (locks : Locks) → may_come call locks ≡ true → IsWhole locks → IsCounted (called call locks)
called_counted (Ask who what mode) locks may whole =
    let claim : Claim = record { who = who; mode = mode } in
    let none : list_any (waits_for who) locks.waits ≡ false =
    lacks who locks.table (λ r. not_queued who r locks (not-true (is_waiting who locks) may)) locks.waits whole.covered.kept.queued in
    ask_counted (verdict claim (lock_of what locks)) what claim locks none whole.counted
called_counted (Hold who what mode) locks may whole =
    let claim : Claim = record { who = who; mode = mode } in
    elim (is_covered claim (lock_of what locks).holders) as (λ b. IsCounted (cond b locks (grant what claim locks))) [ true ↦ whole.counted | false ↦ grant_counted what claim locks whole.counted ]
called_counted (Release who) locks may whole = release_counted who locks whole.covered whole.sounds whole.counted
called_counted Tick locks may whole = first_counted (age locks) (aged_counted locks whole.counted) (first_over (age locks).waits) refl

run_whole : (calls : List Call) (locks : Locks) → IsWhole locks → IsWhole (run calls locks)
run_whole [] locks whole = whole
run_whole (call ∷ more) locks whole =
    run_whole more (step call locks) (
    elim (may_come call locks) as (λ b. may_come call locks ≡ b → IsWhole (cond b (called call locks) locks)) [
      | true ↦ λ may. record { covered = covered_call call locks whole.covered; sounds = each_called sound call locks may whole.sounds; counted = called_counted call locks may whole }
      | false ↦ λ may. whole
    ] refl
    )

none_whole : IsWhole no_locks
none_whole = record { covered = none_covered; sounds = All-nil IsSound; counted = record { once = refl; counted = λ q r h. absurd (false≢true h) } }

pub queued_is_counted : QueuedIsCounted
queued_is_counted calls who what h = (run_whole calls no_locks none_whole).counted.counted who what h

pub waits_are_once : WaitsOnce
waits_are_once calls = (run_whole calls no_locks none_whole).counted.once
