-- The effects of statements on tables, indexes and synonyms.
use Rattle.std.specs.Prelude.{ℕ, Bool, ◌||◌, not, ◌==◌, is_some, List, [], ◌∷◌, ◌++◌, filter, bytes_eq, Option, Some, None}
use Rattle.std.specs.List.{list_any, position_or_len}
use Rattle.rs_base.specs.declared.name.Swn.{Swn}
use Rattle.rs_base.specs.declared.txn.Txn.{Txn}
use Rattle.rs_base.specs.declared.reply.Answer.TheVariants as answers
use Rattle.rs_base.specs.declared.reply.Denial.TheVariants as denials
use Rattle.rs_ast.specs.declared.column.ColDef.{ColDef}
use Rattle.rs_ast.specs.declared.entry.IndexOf.{IndexOf}
use Rattle.rs_scope.specs.Denials.{Test, test, first_denial}
use Rattle.rs_scope.specs.Scope.{as_position}
use Rattle.rs_mean.specs.declared.change.Effect.{Effect}
use Rattle.rs_mean.specs.declared.change.Change.TheVariants as changes
use Rattle.rs_mean.specs.declared.execution.Execution.{Execution}
use Rattle.rs_mean.specs.declared.table.Table.{Table}
use Rattle.rs_mean.specs.Columns.{has_name, names_differ}
use Rattle.rs_mean.specs.Database.{Database, table_named, target_of}
use Rattle.rs_mean.specs.Effects.{done, unless_denied}
use Rattle.rs_mean.specs.Names.{own_synonym, site_test, table_tests}

-- ---- CREATE TABLE, DROP TABLE

-- there is no such site; two columns have one name; a table has the name
abbrev pub create_tests : Database → Swn → List ColDef → List Test
create_tests db name columns =
    site_test db name ∷ test (not (names_differ columns)) denials.TwoColumns
    ∷ test (is_some (table_named name db)) denials.TableExists ∷ []

-- a table without rows, at its birth site
abbrev pub new_table : Txn → Swn → List ColDef → Table
new_table txn name columns = record { made = txn; place = name.birth; columns = columns; indexes = []; rows = [] }

-- a table without rows is stored at its birth site
abbrev pub create_table : Database → Txn → Swn → List ColDef → Effect
create_table db txn name columns =
    unless_denied (first_denial (create_tests db name columns))
    (done (changes.PutTable name (new_table txn name columns)) answers.Ok)

abbrev pub drop_table : Database → Swn → Effect
drop_table db name = unless_denied (first_denial (table_tests db name)) (done (changes.DropTable name) answers.Ok)

-- ---- CREATE INDEX, DROP INDEX

abbrev pub columns_of : Option Table → List ColDef
columns_of None = []
columns_of (Some table) = table.columns

abbrev pub indexes_of : Option Table → List IndexOf
indexes_of None = []
indexes_of (Some table) = table.indexes

-- the index of the column of that name
abbrev pub column_index : List ColDef → List ℕ → ℕ
column_index columns name = as_position (position_or_len (λ column. bytes_eq column.name name) columns)

-- an index has this name
abbrev pub has_index : List IndexOf → List ℕ → Bool
has_index indexes name = list_any (λ index. bytes_eq index.name name) indexes

-- an index is on this column
abbrev pub is_indexed : List IndexOf → ℕ → Bool
is_indexed indexes column = list_any (λ index. index.column == column) indexes

-- the table can't be used; it has no such column; the name is in use on the table, or the column has an index
abbrev pub create_index_tests : Database → Swn → List ℕ → List ℕ → List Test
create_index_tests db name index column =
    let columns = columns_of (table_named name db) in let indexes = indexes_of (table_named name db) in
    table_tests db name
    ++ test (not (has_name columns column)) denials.NoColumn
    ∷ test (has_index indexes index || is_indexed indexes (column_index columns column)) denials.IndexExists
    ∷ []

abbrev pub new_index : Txn → List ℕ → ℕ → IndexOf
new_index txn index column = record { name = index; column = column; made = txn }

-- the index comes after those that the table has
abbrev pub create_index : Database → Txn → Swn → List ℕ → List ℕ → Effect
create_index db txn name index column =
    let columns = columns_of (table_named name db) in let indexes = indexes_of (table_named name db) in
    unless_denied (first_denial (create_index_tests db name index column))
    (done (changes.SetIndexes name (indexes ++ new_index txn index (column_index columns column) ∷ [])) answers.Ok)

-- the table can't be used; it has no index of that name
abbrev pub drop_index_tests : Database → Swn → List ℕ → List Test
drop_index_tests db name index = table_tests db name
    ++ test (not (has_index (indexes_of (table_named name db)) index)) denials.NoIndex ∷ []

abbrev pub is_other_index : List ℕ → IndexOf → Bool
is_other_index name index = not (bytes_eq index.name name)

-- the indexes of other names
abbrev pub without_index : List ℕ → List IndexOf → List IndexOf
without_index name indexes = filter (is_other_index name) indexes

-- the table keeps its other indexes
abbrev pub drop_index : Database → Swn → List ℕ → Effect
drop_index db name index =
    unless_denied (first_denial (drop_index_tests db name index))
    (done (changes.SetIndexes name (without_index index (indexes_of (table_named name db)))) answers.Ok)

-- ---- CREATE SYNONYM, DROP SYNONYM

-- there is no such site; the user has such a synonym at the site
abbrev pub create_synonym_tests : Database → Execution → List ℕ → Swn → List Test
create_synonym_tests db execution synonym name =
    site_test db name ∷ test (is_some (target_of (own_synonym execution synonym) db)) denials.SynonymExists ∷ []

-- the name need not be that of a table
abbrev pub create_synonym : Database → Execution → List ℕ → Swn → Effect
create_synonym db execution synonym name =
    unless_denied (first_denial (create_synonym_tests db execution synonym name))
    (done (changes.PutSynonym (own_synonym execution synonym) name) answers.Ok)

abbrev pub drop_synonym_tests : Database → Execution → List ℕ → List Test
drop_synonym_tests db execution synonym =
    test (not (is_some (target_of (own_synonym execution synonym) db))) denials.NoSynonym ∷ []

abbrev pub drop_synonym : Database → Execution → List ℕ → Effect
drop_synonym db execution synonym =
    unless_denied (first_denial (drop_synonym_tests db execution synonym))
    (done (changes.DropSynonym (own_synonym execution synonym)) answers.Ok)
