-- The database, and the change of a table or a synonym in it.
use Rattle.std.specs.Prelude.{ℕ, List, [], Option, Some, None}
use Rattle.std.specs.BTreeMap.{insert_entry, is_at}
use Rattle.std.specs.Map.{lookup, keys_of, remove_entry}
use Rattle.std.specs.List.Sorted.{IsStrictlySortedBy}
use Rattle.std.specs.Ordering.{nat_cmp, ordering_then}
use Rattle.std.specs.Cmp.Lexicographic.{slice_cmp}
use Rattle.std.specs.declared.cmp.Ordering.{Ordering}
use Rattle.rs_base.specs.declared.name.Swn.{Swn}
use Rattle.rs_base.specs.Name.{name_cmp}
use Rattle.rs_ast.specs.declared.stmt.Dml.{Dml}
use Rattle.rs_mean.specs.declared.synonym.Synonym.{Synonym}
use Rattle.rs_mean.specs.declared.table.Table.{Table}

-- a user's program at a site
pub record ProgramName : Type 0 where
  pub site : ℕ
  pub user : List ℕ
  pub name : List ℕ

-- its parameters, and its statements, with resolved names
pub record Program : Type 0 where
  pub params : List (List ℕ)
  pub body : List Dml

-- the number of sites; the tables by their system-wide names, sorted by name; the names that users' synonyms refer to,
-- sorted by synonym; and users' programs, sorted by name: no statement makes one so far
pub record Database : Type 0 where
  pub sites : ℕ
  pub tables : List (Swn × Table)
  pub synonyms : List (Synonym × Swn)
  pub programs : List (ProgramName × Program)

-- the empty database of this number of sites
abbrev pub empty : ℕ → Database
empty sites = record { sites = sites; tables = []; synonyms = []; programs = [] }

-- ---- tables

-- the table of this name, if there is one
abbrev pub table_named : Swn → Database → Option Table
table_named name db = lookup (is_at (name_cmp name)) db.tables

-- the database with this table under this name, and all others as they were
abbrev pub with_table : Swn → Table → Database → Database
with_table name table db = record db { tables = insert_entry name_cmp db.tables name table }

-- the database without a table of this name
abbrev pub without_table : Swn → Database → Database
without_table name db = record db { tables = remove_entry (is_at (name_cmp name)) db.tables }

-- the table stored under its name, if there was one
abbrev pub with_changed : Swn → (Table → Table) → Option Table → Database → Database
with_changed name change None db = db
with_changed name change (Some table) db = with_table name (change table) db

-- the database with the table of this name changed, if there is one
abbrev pub changing : Swn → (Table → Table) → Database → Database
changing name change db = with_changed name change (table_named name db) db

-- the names are distinct and rise
abbrev pub IsInOrder : Database → Type 0
IsInOrder db = IsStrictlySortedBy name_cmp (keys_of db.tables)

-- ---- synonyms

-- synonyms by site, user and name
abbrev pub synonym_cmp : Synonym → Synonym → Ordering
synonym_cmp one other = ordering_then (nat_cmp one.site other.site)
    (ordering_then (slice_cmp nat_cmp one.user other.user) (slice_cmp nat_cmp one.name other.name))

-- the name that the synonym refers to, if there is such a synonym
abbrev pub target_of : Synonym → Database → Option Swn
target_of synonym db = lookup (is_at (synonym_cmp synonym)) db.synonyms

-- the database with this synonym for this name
abbrev pub with_synonym : Synonym → Swn → Database → Database
with_synonym synonym name db = record db { synonyms = insert_entry synonym_cmp db.synonyms synonym name }

-- the database without this synonym
abbrev pub without_synonym : Synonym → Database → Database
without_synonym synonym db = record db { synonyms = remove_entry (is_at (synonym_cmp synonym)) db.synonyms }

-- the synonyms are distinct and rise
abbrev pub AreSynonymsInOrder : Database → Type 0
AreSynonymsInOrder db = IsStrictlySortedBy synonym_cmp (keys_of db.synonyms)

-- ---- programs

-- programs by site, user and name
abbrev pub program_cmp : ProgramName → ProgramName → Ordering
program_cmp one other = ordering_then (nat_cmp one.site other.site)
    (ordering_then (slice_cmp nat_cmp one.user other.user) (slice_cmp nat_cmp one.name other.name))

-- the program of this name, if there is one
abbrev pub program_of : ProgramName → Database → Option Program
program_of name db = lookup (is_at (program_cmp name)) db.programs
