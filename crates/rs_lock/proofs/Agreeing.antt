-- Who stands in a queue has a wait, and who has a wait stands in a queue.
use Rattle.std.proofs.Common.{◌≡◌, Bool, true, false, cond, [], ◌∷◌, Some, None, Less, refl, sym, ap, ◌∙◌, ⊎_elim}
use Rattle.std.specs.Prelude.{unwrap_or}
use Rattle.std.specs.BTreeMap.{is_at}
use Rattle.std.specs.List.{list_any, AllByRecursion}
use Rattle.std.specs.Map.{lookup, keys_of}
use Rattle.std.specs.Ordering.{is_eq}
use Rattle.std.proofs.lemmas.Bool.{or_from, true≢false}
use Rattle.std.proofs.lemmas.Map.Keys.{sorted_head, sorted_tail}
use Rattle.rs_base.specs.declared.lock.Resource.{Resource}
use Rattle.rs_base.specs.declared.txn.Enlist.{Enlist}
use Rattle.rs_base.specs.Orders.{resource_cmp}
use Rattle.rs_lock.specs.Calls.{lock_of, is_waiting}
use Rattle.rs_lock.specs.Claims.{has}
use Rattle.rs_lock.specs.Courses.{after}
use Rattle.rs_lock.specs.Laws.{WaitingAgrees}
use Rattle.rs_lock.specs.Lock.{Lock, unlocked}
use Rattle.rs_lock.specs.Locks.{Table, lock_in}
use Rattle.rs_lock.specs.Waits.{has_wait}
use Rattle.rs_lock.proofs.Counting.{lacks, waits_of, tie_self, queued_is_counted}
use Rattle.rs_lock.proofs.Kept.{not_queued}
use Rattle.rs_lock.proofs.Waiting.{IsSorted, same_or_apart, waits_kept}

lock_first : (e : Resource × Lock) (es : Table) → lock_in e.0 (e ∷ es) ≡ e.1
lock_first e es = ap (λ b. unwrap_or (cond b (Some e.1) (lookup (is_at (resource_cmp e.0)) es)) unlocked) (tie_self e.0)

lock_later : (r : Resource) (e : Resource × Lock) (es : Table) → is_eq (resource_cmp r e.0) ≡ false → lock_in r (e ∷ es) ≡ lock_in r es
lock_later r e es apart = ap (λ b. unwrap_or (cond b (Some e.1) (lookup (is_at (resource_cmp r)) es)) unlocked) apart

none_above : (k : Resource) (es : Table) → AllByRecursion (λ y. resource_cmp k y ≡ Less) (keys_of es) → lookup (is_at (resource_cmp k)) es ≡ None
none_above k [] all = refl
none_above k (f ∷ es) all = ap (λ o. cond (is_eq o) (Some f.1) (lookup (is_at (resource_cmp k)) es)) all.0 ∙ none_above k es all.1

-- who stands in the queue of no resource stands in none of the table
stands_nowhere : (who : Enlist) (table : Table) → IsSorted table → ((r : Resource) → has who (lock_in r table).queue ≡ false) → list_any (λ (e : Resource × Lock). has who e.1.queue) table ≡ false
stands_nowhere who [] up none = refl
stands_nowhere who (e ∷ es) up none =
    let later : (r : Resource) → has who (lock_in r es).queue ≡ false =
    λ r.
    ⊎_elim
    (λ is. ap (λ s. has who (lock_in s es).queue) is ∙ ap (λ found. has who (unwrap_or found unlocked).queue) (none_above e.0 es (sorted_head resource_cmp e.0 (keys_of es) up)))
    (λ apart. ap (λ (l : Lock). has who l.queue) (sym (lock_later r e es apart)) ∙ none r)
    (same_or_apart r e.0) in
    or_from (has who e.1.queue) (list_any (λ (e : Resource × Lock). has who e.1.queue) es)
    (ap (λ (l : Lock). has who l.queue) (sym (lock_first e es)) ∙ none e.0) (stands_nowhere who es (sorted_tail resource_cmp e.0 (keys_of es) up) later)

pub waiting_agrees : WaitingAgrees
waiting_agrees calls who = by_wait (has_wait who (after calls).waits) refl
  where
    by_queue : (b : Bool) → is_waiting who (after calls) ≡ b → has_wait who (after calls).waits ≡ true → is_waiting who (after calls) ≡ true
    by_queue true e waits = e
    by_queue false e waits =
        absurd (true≢false (sym waits ∙ lacks who (after calls).table (λ r. not_queued who r (after calls) e) (after calls).waits (waits_kept calls).queued))

    none : has_wait who (after calls).waits ≡ false → (r : Resource) → has who (lock_of r (after calls)).queue ≡ false
    none waits r =
        elim (has who (lock_of r (after calls)).queue) as (λ b. has who (lock_of r (after calls)).queue ≡ b → b ≡ false) [
          | true ↦ λ stands. absurd (true≢false (sym (waits_of who r (after calls).waits (queued_is_counted calls who r stands)) ∙ waits))
          | false ↦ λ stands. refl
        ] refl

    by_wait : (b : Bool) → has_wait who (after calls).waits ≡ b → is_waiting who (after calls) ≡ has_wait who (after calls).waits
    by_wait true e = by_queue (is_waiting who (after calls)) refl e ∙ sym e
    by_wait false e = stands_nowhere who (after calls).table (waits_kept calls).sorted (none e) ∙ sym e
