-- What each enlistment asked for and was granted.
use Rattle.std.specs.Prelude.{List, [], unwrap_or}
use Rattle.std.specs.BTreeMap.{insert_entry, is_at}
use Rattle.std.specs.Map.{lookup, remove_entry}
use Rattle.rs_base.specs.declared.lock.Resource.{Resource}
use Rattle.rs_base.specs.declared.txn.Enlist.{Enlist}
use Rattle.rs_base.specs.Txn.{enlist_cmp}
use Rattle.rs_lock.specs.declared.part.Part.{Part}
use Rattle.rs_lock.specs.Resources.{noted}

-- an enlistment that asked for nothing
abbrev pub idle : Part
idle = record { asks = []; grants = [] }

abbrev pub asked : Resource → Part → Part
asked what part = record part { asks = noted what part.asks }

abbrev pub given : Resource → Part → Part
given what part = record part { grants = noted what part.grants }

-- ---- the parts of all enlistments, sorted by enlistment

abbrev pub Parts : Type 0
Parts = List (Enlist × Part)

abbrev pub part_in : Enlist → Parts → Part
part_in who parts = unwrap_or (lookup (is_at (enlist_cmp who)) parts) idle

abbrev pub with_part : Enlist → Part → Parts → Parts
with_part who part parts = insert_entry enlist_cmp parts who part

abbrev pub without_part : Enlist → Parts → Parts
without_part who parts = remove_entry (is_at (enlist_cmp who)) parts
