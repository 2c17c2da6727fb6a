-- What changes leave as it was, and what they put in the place of a table.
use Rattle.std.proofs.Common.{◌≡◌, ◌≢◌, false, Option, Some, None, is_eq, refl, sym, ap, ◌∙◌}
use Rattle.std.specs.BTreeMap.{is_at}
use Rattle.std.specs.Option.{option_map}
use Rattle.rs_base.specs.declared.name.Swn.{Swn}
use Rattle.rs_base.specs.Name.{name_cmp}
use Rattle.rs_mean.specs.declared.change.Change.{Change}
use Rattle.rs_mean.specs.declared.change.Change.TheVariants as changes
use Rattle.rs_mean.specs.declared.table.Table.{Table}
use Rattle.rs_mean.specs.Changes.{changed, with_rows}
use Rattle.rs_mean.specs.Database.{Database, table_named, without_table, changing, with_changed, IsInOrder}
use Rattle.law_map.proofs.Entries.{apart, lookup_put, lookup_beside, keys_stay_sorted, left_in_order, lookup_left, lookup_gone}
use Rattle.rs_mean.proofs.Orders.{name_total, name_exact}

---- the number of sites

sites_changing : (name : Swn) (change : Table → Table) (found : Option Table) (db : Database) → (with_changed name change found db).sites ≡ db.sites
sites_changing name change None db = refl
sites_changing name change (Some table) db = refl

pub sites_stay_at : (change : Change) (db : Database) → (changed change db).sites ≡ db.sites
sites_stay_at changes.Nothing db = refl
sites_stay_at (changes.PutTable name table) db = refl
sites_stay_at (changes.DropTable name) db = refl
sites_stay_at (changes.SetIndexes name indexes) db = sites_changing name (λ table. record table { indexes = indexes }) (table_named name db) db
sites_stay_at (changes.AppendRows name rows) db = sites_changing name (with_rows rows) (table_named name db) db
sites_stay_at (changes.SetRows name rows) db = sites_changing name (λ table. record table { rows = rows }) (table_named name db) db
sites_stay_at (changes.PutSynonym synonym name) db = refl
sites_stay_at (changes.DropSynonym synonym) db = refl

-- ---- the order of names

changing_in_order : (name : Swn) (change : Table → Table) (found : Option Table) (db : Database) → IsInOrder db → IsInOrder (with_changed name change found db)
changing_in_order name change None db up = up
changing_in_order name change (Some table) db up = keys_stay_sorted name_total name (change table) db.tables up

pub change_in_order : (change : Change) (db : Database) → IsInOrder db → IsInOrder (changed change db)
change_in_order changes.Nothing db up = up
change_in_order (changes.PutTable name table) db up = keys_stay_sorted name_total name table db.tables up
change_in_order (changes.DropTable name) db up = left_in_order name_cmp (is_at (name_cmp name)) db.tables up
change_in_order (changes.SetIndexes name indexes) db up = changing_in_order name (λ table. record table { indexes = indexes }) (table_named name db) db up
change_in_order (changes.AppendRows name rows) db up = changing_in_order name (with_rows rows) (table_named name db) db up
change_in_order (changes.SetRows name rows) db up = changing_in_order name (λ table. record table { rows = rows }) (table_named name db) db up
change_in_order (changes.PutSynonym synonym name) db up = up
change_in_order (changes.DropSynonym synonym) db up = up

-- ---- tables of other names

-- the change is of no table, or of that of this name
abbrev pub TouchesOnly : Option Swn → Change → Type 0
TouchesOnly target changes.Nothing = Unit {0}
TouchesOnly target (changes.PutTable name table) = target ≡ Some name
TouchesOnly target (changes.DropTable name) = target ≡ Some name
TouchesOnly target (changes.SetIndexes name indexes) = target ≡ Some name
TouchesOnly target (changes.AppendRows name rows) = target ≡ Some name
TouchesOnly target (changes.SetRows name rows) = target ≡ Some name
TouchesOnly target (changes.PutSynonym synonym name) = Unit {0}
TouchesOnly target (changes.DropSynonym synonym) = Unit {0}

module _ (name own : Swn) (differ : is_eq (name_cmp name own) ≡ false) where
  changing_beside : (change : Table → Table) (found : Option Table) (db : Database) → table_named name (with_changed own change found db) ≡ table_named name db
  changing_beside change None db = refl
  changing_beside change (Some table) db = lookup_beside name_total own (change table) name differ db.tables

-- the names differ if one is the target and the other isn't
beside : (target : Option Swn) (name own : Swn) → target ≡ Some own → target ≢ Some name → is_eq (name_cmp name own) ≡ false
beside target name own is other = apart name_exact name own (λ (same : name ≡ own). other (is ∙ sym (ap (λ n. Some n) same)))

pub others_stay_at : (target : Option Swn) (name : Swn) (change : Change) (db : Database) → target ≢ Some name → TouchesOnly target change
    → table_named name (changed change db) ≡ table_named name db
others_stay_at target name changes.Nothing db other only = refl
others_stay_at target name (changes.PutTable own table) db other only = lookup_beside name_total own table name (beside target name own only other) db.tables
others_stay_at target name (changes.DropTable own) db other only = lookup_left name_total name own (beside target name own only other) db.tables
others_stay_at target name (changes.SetIndexes own indexes) db other only =
    changing_beside name own (beside target name own only other) (λ table. record table { indexes = indexes }) (table_named own db) db
others_stay_at target name (changes.AppendRows own rows) db other only = changing_beside name own (beside target name own only other) (with_rows rows) (table_named own db) db
others_stay_at target name (changes.SetRows own rows) db other only =
    changing_beside name own (beside target name own only other) (λ table. record table { rows = rows }) (table_named own db) db
others_stay_at target name (changes.PutSynonym synonym own) db other only = refl
others_stay_at target name (changes.DropSynonym synonym) db other only = refl

-- ---- synonyms

abbrev pub IsOfTables : Change → Type 0
IsOfTables changes.Nothing = Unit {0}
IsOfTables (changes.PutTable name table) = Unit {0}
IsOfTables (changes.DropTable name) = Unit {0}
IsOfTables (changes.SetIndexes name indexes) = Unit {0}
IsOfTables (changes.AppendRows name rows) = Unit {0}
IsOfTables (changes.SetRows name rows) = Unit {0}
IsOfTables (changes.PutSynonym synonym name) = ⊥
IsOfTables (changes.DropSynonym synonym) = ⊥

synonyms_changing : (name : Swn) (change : Table → Table) (found : Option Table) (db : Database) → (with_changed name change found db).synonyms ≡ db.synonyms
synonyms_changing name change None db = refl
synonyms_changing name change (Some table) db = refl

pub synonyms_stay_at : (change : Change) (db : Database) → IsOfTables change → (changed change db).synonyms ≡ db.synonyms
synonyms_stay_at changes.Nothing db is = refl
synonyms_stay_at (changes.PutTable name table) db is = refl
synonyms_stay_at (changes.DropTable name) db is = refl
synonyms_stay_at (changes.SetIndexes name indexes) db is = synonyms_changing name (λ table. record table { indexes = indexes }) (table_named name db) db
synonyms_stay_at (changes.AppendRows name rows) db is = synonyms_changing name (with_rows rows) (table_named name db) db
synonyms_stay_at (changes.SetRows name rows) db is = synonyms_changing name (λ table. record table { rows = rows }) (table_named name db) db
synonyms_stay_at (changes.PutSynonym synonym name) db is = absurd is
synonyms_stay_at (changes.DropSynonym synonym) db is = absurd is

-- ---- the table of the name

-- the inserted table has its name
pub named_put : (name : Swn) (table : Table) (db : Database) → table_named name (changed (changes.PutTable name table) db) ≡ Some table
named_put name table db = lookup_put name_total name table db.tables

-- no table has the name of one that was dropped
pub named_dropped : (name : Swn) (db : Database) → IsInOrder db → table_named name (without_table name db) ≡ None
named_dropped name db up = lookup_gone name_total name db.tables up

module _ (name : Swn) (change : Table → Table) (db : Database) where
  named_found : (found : Option Table) → table_named name db ≡ found → table_named name (with_changed name change found db) ≡ option_map change found
  named_found None e = e
  named_found (Some table) e = lookup_put name_total name (change table) db.tables

  -- the name of a table that was changed has it changed
  pub named_changing : table_named name (changing name change db) ≡ option_map change (table_named name db)
  named_changing = named_found (table_named name db) refl
