-- A changed table, written back.
use Rattle.std.proofs.Common.{◌≡◌, List, Some, Result, Ok, Err, sym, ap, ◌∙◌}
use Rattle.std.specs.Result.{OnOk, OnErr}
use Rattle.std.specs.BTreeMap.{is_at}
use Rattle.std.specs.List.Sorted.{IsStrictlySortedBy}
use Rattle.std.specs.Map.{set_value, keys_of}
use Rattle.std.proofs.lemmas.Map.Steps.{set_value_same}
use Rattle.rs_base.specs.declared.fault.NoMemory.{NoMemory}
use Rattle.rs_base.specs.declared.name.Swn.{Swn}
use Rattle.rs_base.specs.Name.{name_cmp}
use Rattle.rs_mean.specs.declared.table.Table.{Table}
use Rattle.rs_mean.specs.Database.{Database, table_named, changing, with_changed}
use Rattle.rs_mean.proofs.Orders.{name_total}
use Rattle.law_map.proofs.Entries.{set_value_is_insert_entry}

module _ (name : Swn) (db : Database) (table : Table) (up : IsStrictlySortedBy name_cmp (keys_of db.tables)) (found : table_named name db ≡ Some table) where
  -- the changed table in the place of the one that was found
  pub written : (change : Table → Table) (fs : List (Swn × Table)) → fs ≡ set_value (is_at (name_cmp name)) db.tables (change table) → record db { tables = fs } ≡ changing name change db
  written change fs put =
      ap (λ gs. record db { tables = gs }) (put ∙ set_value_is_insert_entry name_total name db.tables table (change table) up found)
      ∙ sym (ap (λ option. with_changed name change option db) found)

  pub written_on_ok : {V : Type 0} (result : Result V NoMemory) (change : Table → Table) (w : Table) (fs : List (Swn × Table)) → fs ≡ set_value (is_at (name_cmp name)) db.tables w
      → OnOk result (w ≡ change table) → OnOk result (record db { tables = fs } ≡ changing name change db)
  written_on_ok (Ok v) change w fs put ok = written change fs (put ∙ ap (λ t. set_value (is_at (name_cmp name)) db.tables t) ok)
  written_on_ok (Err fault) change w fs put ok = tt

  pub same_on_err : {V : Type 0} (result : Result V NoMemory) (w : Table) (fs : List (Swn × Table)) → fs ≡ set_value (is_at (name_cmp name)) db.tables w
      → OnErr result (w ≡ table) → OnErr result (record db { tables = fs } ≡ db)
  same_on_err (Ok v) w fs put err = tt
  same_on_err (Err fault) w fs put err =
      let same : set_value (is_at (name_cmp name)) db.tables w ≡ db.tables = ap (λ t. set_value (is_at (name_cmp name)) db.tables t) err ∙ set_value_same (is_at (name_cmp name)) db.tables table found in
      ap (λ gs. record db { tables = gs }) (put ∙ same)
