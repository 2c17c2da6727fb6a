-- What a site should store of a resource, by the database alone.
use Rattle.std.specs.Prelude.{ℕ, ◌==◌, ◌&&◌, List, filter, bytes_eq, Bool, Option, Some, None, if◌then◌else◌}
use Rattle.rs_base.specs.declared.lock.Resource.{Resource}
use Rattle.rs_base.specs.declared.lock.Resource.TheVariants as resources
use Rattle.rs_base.specs.declared.name.Swn.{Swn}
use Rattle.rs_base.specs.declared.txn.Txn.{Txn}
use Rattle.rs_base.specs.declared.value.Value.{Value}
use Rattle.rs_ast.specs.declared.column.ColDef.{ColDef}
use Rattle.rs_ast.specs.declared.entry.IndexOf.{IndexOf}
use Rattle.rs_mean.specs.Database.{Database, Program, table_named, program_of}
use Rattle.rs_mean.specs.declared.synonym.Synonym.{Synonym}
use Rattle.rs_mean.specs.declared.table.Table.{Table}

-- the transaction that created a table, its columns, its indexes in order of creation, and its rows in order of insertion
pub record StoredTable : Type 0 where
  pub made : Txn
  pub columns : List ColDef
  pub indexes : List IndexOf
  pub rows : List (List Value)

-- What is stored of a resource. A birth entry is the site that stores the table.
pub data Content : Type 0 where
  TableIs : Option StoredTable → Content
  BirthIs : Option ℕ → Content
  ProgramIs : Option Program → Content
  SynonymsAre : List (Synonym × Swn) → Content

abbrev pub stored_at : ℕ → Option Table → Option StoredTable
stored_at site None = None
stored_at site (Some table) =
    if table.place == site
    then Some (record { made = table.made; columns = table.columns; indexes = table.indexes; rows = table.rows })
    else None

abbrev pub place_of : Option Table → Option ℕ
place_of None = None
place_of (Some table) = Some table.place

abbrev pub is_of_user : ℕ → List ℕ → Synonym × Swn → Bool
is_of_user site user entry = entry.0.site == site && bytes_eq entry.0.user user

-- what a site should store of a resource: a table where its place is; the place of a table at the table's birth site; the
-- program of a user at the site, and the user's synonyms there
abbrev pub expected : Database → ℕ → Resource → Content
expected db site (resources.Table name) = TableIs (stored_at site (table_named name db))
expected db site (resources.Birth name) = BirthIs (if name.birth == site then place_of (table_named name db) else None)
expected db site (resources.Program user name) = ProgramIs (program_of (record { site = site; user = user; name = name }) db)
expected db site (resources.Synonyms user) = SynonymsAre (filter (is_of_user site user) db.synonyms)
