-- The locks of a site.
use Rattle.std.specs.Prelude.{List, [], Option, Some, None, unwrap_or, if◌then◌else◌}
use Rattle.std.specs.BTreeMap.{insert_entry, is_at}
use Rattle.std.specs.Map.{lookup, remove_entry}
use Rattle.rs_base.specs.declared.lock.Resource.{Resource}
use Rattle.rs_base.specs.declared.txn.Enlist.{Enlist}
use Rattle.rs_base.specs.Orders.{resource_cmp}
use Rattle.rs_lock.specs.declared.claim.Claim.{Claim}
use Rattle.rs_lock.specs.declared.wait.Wait.{Wait}
use Rattle.rs_lock.specs.Lock.{Lock, unlocked, is_free, granted, dequeued, released}
use Rattle.rs_lock.specs.Parts.{Parts}

-- the resources that somebody holds or waits for, sorted
abbrev pub Table : Type 0
Table = List (Resource × Lock)

-- the locks of each resource; what each enlistment asked for and was granted; and the waits, in the order in which they began
pub record Locks : Type 0 where
  pub table : List (Resource × Lock)
  pub parts : Parts
  pub waits : List Wait

abbrev pub no_locks : Locks
no_locks = record { table = []; parts = []; waits = [] }

abbrev pub lock_in : Resource → Table → Lock
lock_in what table = unwrap_or (lookup (is_at (resource_cmp what)) table) unlocked

abbrev pub with_lock : Resource → Lock → Table → Table
with_lock what lock table = insert_entry resource_cmp table what lock

-- the claim holds the resource
abbrev pub taken_in : Claim → Lock → Lock
taken_in claim lock = record lock { holders = granted claim lock.holders }

-- the lock that is stored, if there is one, once the enlistment no longer waits for it
abbrev pub with_dequeued : Resource → Enlist → Option Lock → Table → Table
with_dequeued what who None table = table
with_dequeued what who (Some lock) table = with_lock what (dequeued who lock) table

abbrev pub dequeued_in : Resource → Enlist → Table → Table
dequeued_in what who table = with_dequeued what who (lookup (is_at (resource_cmp what)) table) table

-- a resource that nobody holds or waits for isn't stored
abbrev pub left_lock : Resource → Lock → Table → Table
left_lock what lock table =
    if is_free lock then remove_entry (is_at (resource_cmp what)) table else with_lock what lock table

-- the enlistment leaves this resource; with the enlistments that are granted there
abbrev pub released_in : Enlist → Resource → Table → Table × List Enlist
released_in who what table =
    let after : Lock × List Enlist = released who (lock_in what table) [] in
    (left_lock what after.0 table, after.1)
