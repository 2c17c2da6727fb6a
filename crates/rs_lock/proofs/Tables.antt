-- The lock of a resource in a table that std keeps by the derived order.
use Rattle.std.proofs.Common.{◌≡◌, Bool, true, false, cond, List, [], ◌∷◌, Some, None, Result, Ordering, refl, sym, ap, ◌∙◌, subst}
use Rattle.std.specs.Prelude.{unwrap_or, OnOk}
use Rattle.std.specs.BTreeMap.{is_at}
use Rattle.std.specs.List.Sorted.{IsStrictlySortedBy}
use Rattle.std.specs.Map.{lookup, set_value, remove_entry, keys_of}
use Rattle.rs_base.specs.declared.lock.Resource.{Resource}
use Rattle.rs_base.specs.declared.txn.Enlist.{Enlist}
use Rattle.rs_base.specs.Orders.{resource_cmp}
use Rattle.rs_lock.specs.Lock.{Lock, unlocked, is_free, dequeued, released}
use Rattle.rs_lock.specs.Locks.{Table, lock_in, with_lock, left_lock, with_dequeued, dequeued_in, released_in}
use Rattle.rs_lock.proofs.Maps.{changed_on_ok}
use Rattle.rs_lock.proofs.Orders.{resource_total, derived_cmp, derived_is}
use Rattle.law_map.proofs.Entries.{set_value_is_insert_entry}

removed_absent : {K X : Type 0} (test : K → Bool) (es : List (K × X)) → lookup test es ≡ None → remove_entry test es ≡ es
removed_absent test [] none = refl
removed_absent {K} {X} test (e ∷ es) none =
    elim (test e.0) as (λ b. cond b (Some e.1) (lookup test es) ≡ None → cond b es (e ∷ remove_entry test es) ≡ e ∷ es)
    [ true ↦ λ h. absurd (some_not h) | false ↦ λ h. ap (λ (fs : List (K × X)). e ∷ fs) (removed_absent test es h) ] none
  where
    some_not : Some e.1 ≡ None → ⊥
    some_not h = cc

removed_written : {K X : Type 0} (test : K → Bool) (es : List (K × X)) (w : X) → remove_entry test (set_value test es w) ≡ remove_entry test es
removed_written test [] w = refl
removed_written {K} {X} test (e ∷ es) w =
    elim (test e.0) as (λ b. test e.0 ≡ b → remove_entry test (cond b ((e.0, w) ∷ es) (e ∷ set_value test es w)) ≡ cond b es (e ∷ remove_entry test es)) [
      | true ↦ λ h. ap (λ b. cond b es ((e.0, w) ∷ remove_entry test es)) h
      | false ↦ λ h. ap (λ b. cond b (set_value test es w) (e ∷ remove_entry test (set_value test es w))) h ∙ ap (λ (fs : List (K × X)). e ∷ fs) (removed_written test es w)
    ] refl

module _ (what : Resource) (table : Table) where
  pub found_lock : (lock : Lock) → lookup (is_at (derived_cmp what)) table ≡ Some lock → lock ≡ lock_in what table
  found_lock lock found =
      let Found : (Resource → Resource → Ordering) → Type 0 = λ cmp. lookup (is_at (cmp what)) table ≡ Some lock in
      sym (ap (λ there. unwrap_or there unlocked) (subst Found derived_is found))

  pub changed_lock : {V E : Type 0} (change : Lock → Lock) (result : Result V E) (lock w : Lock) (new : Table) → IsStrictlySortedBy derived_cmp (keys_of table) → lookup (is_at (derived_cmp what)) table ≡ Some lock
      → new ≡ set_value (is_at (derived_cmp what)) table w → OnOk result (w ≡ change lock) → OnOk result (new ≡ with_lock what (change (lock_in what table)) table)
  changed_lock change result lock w new =
      let Claim : (Resource → Resource → Ordering) → Type 0 = λ cmp. IsStrictlySortedBy cmp (keys_of table) → lookup (is_at (cmp what)) table ≡ Some lock
      → new ≡ set_value (is_at (cmp what)) table w → OnOk result (w ≡ change lock) → OnOk result (new ≡ with_lock what (change (lock_in what table)) table) in
      subst Claim (sym derived_is) (λ up found put is. changed_on_ok resource_total what table unlocked change result lock w new up found put is)

  pub dequeued_some : (who : Enlist) (lock w : Lock) (new : Table) → IsStrictlySortedBy derived_cmp (keys_of table) → lookup (is_at (derived_cmp what)) table ≡ Some lock
      → new ≡ set_value (is_at (derived_cmp what)) table w → w ≡ dequeued who lock → new ≡ dequeued_in what who table
  dequeued_some who lock w new =
      let Claim : (Resource → Resource → Ordering) → Type 0 = λ cmp. IsStrictlySortedBy cmp (keys_of table) → lookup (is_at (cmp what)) table ≡ Some lock
      → new ≡ set_value (is_at (cmp what)) table w → w ≡ dequeued who lock → new ≡ dequeued_in what who table in
      subst Claim (sym derived_is) (λ up found put is.
      put ∙ set_value_is_insert_entry resource_total what table lock w up found ∙ ap (λ l. with_lock what l table) is ∙ ap (λ there. with_dequeued what who there table) (sym found))

  -- ---- a release

  abbrev out_of : Enlist → Lock → Lock × List Enlist
  out_of who lock = released who lock []

  pub released_none : (who : Enlist) → lookup (is_at (derived_cmp what)) table ≡ None → ◌≡◌ {A = Table × List Enlist} (table, []) (released_in who what table)
  released_none who =
      let Claim : (Resource → Resource → Ordering) → Type 0 = λ cmp. lookup (is_at (cmp what)) table ≡ None → ◌≡◌ {A = Table × List Enlist} (table, []) (released_in who what table) in
      subst Claim (sym derived_is) (λ none.
      let absent : remove_entry (is_at (resource_cmp what)) table ≡ table = removed_absent (is_at (resource_cmp what)) table none in
      let here : unlocked ≡ lock_in what table = ap (λ there. unwrap_or there unlocked) (sym none) in
      ap (λ (t : Table). (t, [])) (sym absent) ∙ ap (λ lock. (left_lock what (released who lock []).0 table, (released who lock []).1)) here)

  -- the lock that is left, and those that are granted
  same_out : (who : Enlist) (lock w : Lock) (granted : List Enlist) (new : Table) → lookup (is_at (resource_cmp what)) table ≡ Some lock → ◌≡◌ {A = Lock × List Enlist} (w, granted) (released who lock [])
      → new ≡ left_lock what w table → ◌≡◌ {A = Table × List Enlist} (new, granted) (released_in who what table)
  same_out who lock w granted new found is put =
      let here : lock ≡ lock_in what table = sym (ap (λ there. unwrap_or there unlocked) found) in
      ap (λ t. (t, granted)) put
      ∙ ap (λ (out : Lock × List Enlist). (left_lock what out.0 table, out.1)) is
      ∙ ap (λ l. (left_lock what (released who l []).0 table, (released who l []).1)) here

  pub released_kept : (who : Enlist) (lock w : Lock) (granted : List Enlist) (new : Table) → IsStrictlySortedBy derived_cmp (keys_of table) → lookup (is_at (derived_cmp what)) table ≡ Some lock
      → new ≡ set_value (is_at (derived_cmp what)) table w → ◌≡◌ {A = Lock × List Enlist} (w, granted) (released who lock []) → is_free w ≡ false
      → ◌≡◌ {A = Table × List Enlist} (new, granted) (released_in who what table)
  released_kept who lock w granted new =
      let Claim : (Resource → Resource → Ordering) → Type 0 = λ cmp. IsStrictlySortedBy cmp (keys_of table) → lookup (is_at (cmp what)) table ≡ Some lock
      → new ≡ set_value (is_at (cmp what)) table w → ◌≡◌ {A = Lock × List Enlist} (w, granted) (released who lock []) → is_free w ≡ false
      → ◌≡◌ {A = Table × List Enlist} (new, granted) (released_in who what table) in
      subst Claim (sym derived_is) (λ up found put is kept.
      same_out who lock w granted new found is
      (put ∙ set_value_is_insert_entry resource_total what table lock w up found
      ∙ sym (ap (λ b. cond b (remove_entry (is_at (resource_cmp what)) table) (with_lock what w table)) kept)))

  pub released_free : (who : Enlist) (lock w : Lock) (granted : List Enlist) (new : Table) → lookup (is_at (derived_cmp what)) table ≡ Some lock
      → new ≡ remove_entry (is_at (derived_cmp what)) (set_value (is_at (derived_cmp what)) table w) → ◌≡◌ {A = Lock × List Enlist} (w, granted) (released who lock []) → is_free w ≡ true
      → ◌≡◌ {A = Table × List Enlist} (new, granted) (released_in who what table)
  released_free who lock w granted new =
      let Claim : (Resource → Resource → Ordering) → Type 0 = λ cmp. lookup (is_at (cmp what)) table ≡ Some lock
      → new ≡ remove_entry (is_at (cmp what)) (set_value (is_at (cmp what)) table w) → ◌≡◌ {A = Lock × List Enlist} (w, granted) (released who lock []) → is_free w ≡ true
      → ◌≡◌ {A = Table × List Enlist} (new, granted) (released_in who what table) in
      subst Claim (sym derived_is) (λ found put is free.
      same_out who lock w granted new found is
      (put ∙ removed_written (is_at (resource_cmp what)) table w
      ∙ sym (ap (λ b. cond b (remove_entry (is_at (resource_cmp what)) table) (with_lock what w table)) free)))
