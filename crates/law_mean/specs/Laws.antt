-- Laws of every execution, whatever the database.
use Rattle.std.specs.Prelude.{◌≡◌, ◌≢◌, ◌≤◌, ℕ, ◌+◌, not, bytes_eq, IsTrue, All, AllPairs, List, [], ◌∷◌, ◌++◌, map, filter, length, slice_get, Option, Some, None, Ok, IsSome, option_map, if◌then◌else◌}
use Rattle.std.specs.List.{list_any}
use Rattle.std.specs.Map.{values_of}
use Rattle.rs_base.specs.declared.name.NameText.{NameText}
use Rattle.rs_base.specs.declared.name.Swn.{Swn}
use Rattle.rs_base.specs.declared.reply.Answer.{Answer}
use Rattle.rs_base.specs.declared.reply.Answer.TheVariants as answers
use Rattle.rs_base.specs.declared.reply.Denial.{Denial}
use Rattle.rs_base.specs.declared.value.Kind.{Kind}
use Rattle.rs_base.specs.declared.value.Kind.TheVariants as kinds
use Rattle.rs_base.specs.declared.value.Value.{Value}
use Rattle.rs_base.specs.Sizes.{row_size}
use Rattle.rs_ast.specs.Limits.{KeepsLimits}
use Rattle.rs_ast.specs.declared.bound.BoundCmp.{BoundCmp}
use Rattle.rs_ast.specs.declared.bound.BoundSet.{BoundSet}
use Rattle.rs_ast.specs.declared.change.Set.{Set}
use Rattle.rs_ast.specs.declared.change.Term.TheVariants as terms
use Rattle.rs_ast.specs.declared.clause.Clause.{Clause}
use Rattle.rs_ast.specs.declared.column.ColDef.{ColDef}
use Rattle.rs_ast.specs.declared.entry.IndexOf.{IndexOf}
use Rattle.rs_ast.specs.declared.select.Item.{Item}
use Rattle.rs_ast.specs.declared.select.Item.TheVariants as items
use Rattle.rs_ast.specs.declared.select.Select.{Select}
use Rattle.rs_ast.specs.declared.stmt.Dml.{Dml}
use Rattle.rs_ast.specs.declared.stmt.Dml.TheVariants as dmls
use Rattle.rs_ast.specs.declared.stmt.Stmt.{Stmt}
use Rattle.rs_ast.specs.declared.stmt.Stmt.TheVariants as stmts
use Rattle.rs_scope.specs.declared.scope.ScopeColumn.{ScopeColumn}
use Rattle.rs_scope.specs.Predicates.{bound_clauses}
use Rattle.rs_scope.specs.Scope.{column_kind, query_scope, table_scope}
use Rattle.rs_bind_change.specs.Binding.{bound_set}
use Rattle.rs_eval.specs.Clauses.{holds}
use Rattle.rs_eval.specs.Setting.{row_set}
use Rattle.rs_answer.specs.Kinds.{HasKinds, AreKindsOf}
use Rattle.rs_mean.specs.declared.execution.Execution.{Execution}
use Rattle.rs_mean.specs.declared.synonym.Synonym.{Synonym}
use Rattle.rs_mean.specs.declared.table.Table.{Table}
use Rattle.rs_mean.specs.Changes.{with_rows}
use Rattle.rs_mean.specs.Database.{Database, empty, table_named, IsInOrder, target_of, AreSynonymsInOrder}
use Rattle.rs_rows.specs.Sizes.{rows_size}
use Rattle.rs_rows.specs.Limits.{max_row_bytes, max_rows, max_table_bytes}
use Rattle.rs_mean.specs.Meaning.{meaning}
use Rattle.rs_mean.specs.Names.{name_of, own_synonym}
use Rattle.rs_mean.specs.Outcome.{Done, Denied}
use Rattle.rs_mean.specs.RowStatements.{heading_in}

-- the database after the execution
abbrev pub after : Database → Execution → Database
after db execution = (meaning db execution).0

-- a denied execution changes nothing
abbrev pub DeniedChangesNothing : Type 0
DeniedChangesNothing = (db : Database) (execution : Execution) (cause : Denial)
    → (meaning db execution).1 ≡ Denied cause → after db execution ≡ db

-- a SELECT changes nothing
abbrev pub SelectChangesNothing : Type 0
SelectChangesNothing = (db : Database) (execution : Execution) (query : Select)
    → execution.stmt ≡ stmts.Dml (dmls.Select query) → after db execution ≡ db

-- no execution changes the number of sites
abbrev pub SitesStay : Type 0
SitesStay = (db : Database) (execution : Execution) → (after db execution).sites ≡ db.sites

-- the synonyms are distinct and rise, at first and after each execution
abbrev pub SynonymsStayInOrder : Type 0
SynonymsStayInOrder = ((sites : ℕ) → AreSynonymsInOrder (empty sites))
    × ((db : Database) (execution : Execution) → AreSynonymsInOrder db → AreSynonymsInOrder (after db execution))

-- the names are distinct and rise, at first and after each execution
abbrev pub NamesStayInOrder : Type 0
NamesStayInOrder = ((sites : ℕ) → IsInOrder (empty sites))
    × ((db : Database) (execution : Execution) → IsInOrder db → IsInOrder (after db execution))

-- ---- what a statement may change

-- the name, as it is written, of the table that a statement may change
abbrev pub written_of_dml : Dml → Option NameText
written_of_dml (dmls.Select query) = None
written_of_dml (dmls.Insert written rows) = Some written
written_of_dml (dmls.Update written sets clauses) = Some written
written_of_dml (dmls.Delete written clauses) = Some written

abbrev pub written_of : Stmt → Option NameText
written_of (stmts.CreateTable written columns) = Some written
written_of (stmts.DropTable written) = Some written
written_of (stmts.CreateIndex index written column) = Some written
written_of (stmts.DropIndex index written) = Some written
written_of (stmts.CreateSynonym synonym written) = None
written_of (stmts.DropSynonym synonym) = None
written_of (stmts.Migrate written to) = None
written_of (stmts.Compile program params body) = None
written_of (stmts.DropProgram program) = None
written_of (stmts.Execute program values) = None
written_of (stmts.Explain query) = None
written_of stmts.ShowSections = None
written_of stmts.ShowCache = None
written_of (stmts.Dml dml) = written_of_dml dml

-- the name of the table that an execution may change
abbrev pub target_table : Database → Execution → Option Swn
target_table db execution = option_map (name_of db execution) (written_of execution.stmt)

-- an execution touches no table but its own
abbrev pub OthersStay : Type 0
OthersStay = (db : Database) (execution : Execution) (name : Swn) → target_table db execution ≢ Some name
    → table_named name (after db execution) ≡ table_named name db

-- the name of the synonym that a statement may change
abbrev pub synonym_of : Stmt → Option (List ℕ)
synonym_of (stmts.CreateTable written columns) = None
synonym_of (stmts.DropTable written) = None
synonym_of (stmts.CreateIndex index written column) = None
synonym_of (stmts.DropIndex index written) = None
synonym_of (stmts.CreateSynonym synonym written) = Some synonym
synonym_of (stmts.DropSynonym synonym) = Some synonym
synonym_of (stmts.Migrate written to) = None
synonym_of (stmts.Compile program params body) = None
synonym_of (stmts.DropProgram program) = None
synonym_of (stmts.Execute program values) = None
synonym_of (stmts.Explain query) = None
synonym_of stmts.ShowSections = None
synonym_of stmts.ShowCache = None
synonym_of (stmts.Dml dml) = None

-- the user's own synonym of this name at the asked site
abbrev pub target_synonym : Execution → Option Synonym
target_synonym execution = option_map (own_synonym execution) (synonym_of execution.stmt)

-- only statements on synonyms change what synonyms refer to
abbrev pub SynonymsStay : Type 0
SynonymsStay = (db : Database) (execution : Execution) → synonym_of execution.stmt ≡ None
    → (after db execution).synonyms ≡ db.synonyms

-- an execution touches no synonym but its own: none of another user, and none at another site
abbrev pub OtherSynonymsStay : Type 0
OtherSynonymsStay = (db : Database) (execution : Execution) (synonym : Synonym) → target_synonym execution ≢ Some synonym
    → target_of synonym (after db execution) ≡ target_of synonym db

---- what is there after a done statement

-- after a done CREATE TABLE its name has the new table, without a row
abbrev pub TableIsMade : Type 0
TableIsMade = (db : Database) (execution : Execution) (written : NameText) (columns : List ColDef) (given : List Answer)
    → execution.stmt ≡ stmts.CreateTable written columns → (meaning db execution).1 ≡ Done given
    → (given ≡ answers.Ok ∷ [])
    × (table_named (name_of db execution written) db ≡ None)
    × (table_named (name_of db execution written) (after db execution)
    ≡ Some (record { made = execution.txn; place = (name_of db execution written).birth; columns = columns; indexes = []; rows = [] }))

-- after a done DROP TABLE in a database with sorted names no table has its name, which one had before
abbrev pub TableIsDropped : Type 0
TableIsDropped = (db : Database) (execution : Execution) (written : NameText) (given : List Answer)
    → IsInOrder db → execution.stmt ≡ stmts.DropTable written → (meaning db execution).1 ≡ Done given
    → (given ≡ answers.Ok ∷ [])
    × IsSome (table_named (name_of db execution written) db)
    × (table_named (name_of db execution written) (after db execution) ≡ None)

-- after a done INSERT of values its name has the table that it had, with the rows of these values appended
abbrev pub RowsAreAppended : Type 0
RowsAreAppended = (db : Database) (execution : Execution) (written : NameText) (rows : List (List Value)) (given : List Answer)
    → execution.stmt ≡ stmts.Dml (dmls.Insert written (map (map terms.Lit) rows)) → (meaning db execution).1 ≡ Done given
    → (given ≡ answers.Changed (length rows) ∷ [])
    × IsSome (table_named (name_of db execution written) db)
    × (table_named (name_of db execution written) (after db execution)
    ≡ option_map (with_rows rows) (table_named (name_of db execution written) db))

-- A table has this number of rows less.
pub record HasLost (count : ℕ) (old new : Table) : Type 0 where
  pub made : new.made ≡ old.made
  pub columns : new.columns ≡ old.columns
  pub indexes : new.indexes ≡ old.indexes
  pub rows : length new.rows + count ≡ length old.rows

-- the predicate of a statement on this table, and its assignments, with column indexes for names
abbrev pub predicate_on : Swn → Table → List Clause → List (List BoundCmp)
predicate_on name table clauses = bound_clauses (table_scope (record { name = name; columns = table.columns })) [] clauses

abbrev pub assignments_on : Swn → Table → List Set → List BoundSet
assignments_on name table sets = map (bound_set (table_scope (record { name = name; columns = table.columns })) []) sets

-- after a done DELETE its table has the rows that don't satisfy the predicate, in their order, and it reports the number of
-- the others
abbrev pub RowsAreTakenOut : Type 0
RowsAreTakenOut = (db : Database) (execution : Execution) (written : NameText) (clauses : List Clause) (given : List Answer)
    → execution.stmt ≡ stmts.Dml (dmls.Delete written clauses) → (meaning db execution).1 ≡ Done given
    → (count : ℕ) × (old : Table) × (new : Table) × (given ≡ answers.Changed count ∷ [])
    × (table_named (name_of db execution written) db ≡ Some old)
    × (table_named (name_of db execution written) (after db execution) ≡ Some new) × HasLost count old new
    × (new.rows ≡ filter (λ row. not (holds (predicate_on (name_of db execution written) old clauses) row)) old.rows)

-- Each row is the one of before, set by the assignments if that satisfies the predicate.
abbrev pub AreSet : List BoundSet → List (List BoundCmp) → List (List Value) → List (List Value) → Type 0
AreSet sets clauses [] [] = Unit {0}
AreSet sets clauses [] (new ∷ news) = ⊥
AreSet sets clauses (row ∷ rows) [] = ⊥
AreSet sets clauses (row ∷ rows) (new ∷ news) = ((if holds clauses row then row_set sets [] row else Ok row) ≡ Ok new)
    × AreSet sets clauses rows news

-- after a done UPDATE its table has as many rows as before, in their order: a row that satisfies the predicate is set, and
-- another is as it was; it reports at most their number
abbrev pub RowsAreChanged : Type 0
RowsAreChanged =
    (db : Database) (execution : Execution) (written : NameText) (sets : List Set) (clauses : List Clause) (given : List Answer)
    → execution.stmt ≡ stmts.Dml (dmls.Update written sets clauses) → (meaning db execution).1 ≡ Done given
    → (count : ℕ) × (old : Table) × (new : Table) × (given ≡ answers.Changed count ∷ []) × (count ≤ length old.rows)
    × (table_named (name_of db execution written) db ≡ Some old)
    × (table_named (name_of db execution written) (after db execution) ≡ Some new) × HasLost 0 old new
    × AreSet (assignments_on (name_of db execution written) old sets)
    (predicate_on (name_of db execution written) old clauses) old.rows new.rows

-- the column at this index has this name
abbrev pub IsNameAt : List ℕ → List ColDef → ℕ → Type 0
IsNameAt name columns place = option_map (λ column. column.name) (slice_get columns place) ≡ Some name

-- A table has one index more, after those that it had, none of which has its name or is on its column.
pub record HasGained (index : IndexOf) (old new : Table) : Type 0 where
  pub fresh : All (λ other. (other.name ≢ index.name) × (other.column ≢ index.column)) old.indexes
  pub is : new ≡ record old { indexes = old.indexes ++ index ∷ [] }

-- after a done CREATE INDEX its table has the index, of this name, made by the execution, and on the column of that name if the
-- table has at most 16 columns
abbrev pub IndexIsMade : Type 0
IndexIsMade =
    (db : Database) (execution : Execution) (name : List ℕ) (written : NameText) (column : List ℕ) (given : List Answer)
    → execution.stmt ≡ stmts.CreateIndex name written column → (meaning db execution).1 ≡ Done given
    → (old : Table) × (new : Table) × (index : IndexOf) × (given ≡ answers.Ok ∷ []) × (index.name ≡ name)
    × (index.made ≡ execution.txn)
    × (length old.columns ≤ 16 → IsNameAt column old.columns index.column)
    × (table_named (name_of db execution written) db ≡ Some old)
    × (table_named (name_of db execution written) (after db execution) ≡ Some new) × HasGained index old new

-- A table that had an index of this name has none of it any more, and all its others.
pub record HasNoMore (name : List ℕ) (old new : Table) : Type 0 where
  pub there : IsTrue (list_any (λ index. bytes_eq index.name name) old.indexes)
  pub gone : All (λ index. index.name ≢ name) new.indexes
  pub is : new ≡ record old { indexes = filter (λ index. not (bytes_eq index.name name)) old.indexes }

-- after a done DROP INDEX its table has no index of this name
abbrev pub IndexIsDropped : Type 0
IndexIsDropped = (db : Database) (execution : Execution) (name : List ℕ) (written : NameText) (given : List Answer)
    → execution.stmt ≡ stmts.DropIndex name written → (meaning db execution).1 ≡ Done given
    → (old : Table) × (new : Table) × (given ≡ answers.Ok ∷ [])
    × (table_named (name_of db execution written) db ≡ Some old)
    × (table_named (name_of db execution written) (after db execution) ≡ Some new) × HasNoMore name old new

-- after a done CREATE SYNONYM the user's synonym at the asked site, which wasn't there, refers to the name
abbrev pub SynonymIsMade : Type 0
SynonymIsMade = (db : Database) (execution : Execution) (synonym : List ℕ) (written : NameText) (given : List Answer)
    → execution.stmt ≡ stmts.CreateSynonym synonym written → (meaning db execution).1 ≡ Done given
    → (given ≡ answers.Ok ∷ [])
    × (target_of (own_synonym execution synonym) db ≡ None)
    × (target_of (own_synonym execution synonym) (after db execution) ≡ Some (name_of db execution written))

-- after a done DROP SYNONYM in a database with sorted synonyms the user's synonym at the asked site, which was there, is gone
abbrev pub SynonymIsDropped : Type 0
SynonymIsDropped = (db : Database) (execution : Execution) (synonym : List ℕ) (given : List Answer)
    → AreSynonymsInOrder db → execution.stmt ≡ stmts.DropSynonym synonym → (meaning db execution).1 ≡ Done given
    → (given ≡ answers.Ok ∷ [])
    × IsSome (target_of (own_synonym execution synonym) db)
    × (target_of (own_synonym execution synonym) (after db execution) ≡ None)

---- invariants of every table

-- each table of the database is so
abbrev pub EachTable : (Table → Type 0) → Database → Type 0
EachTable P db = All P (values_of db.tables)

-- each table is so at first, and stays so after each execution
abbrev pub StaysInEachTable : (Table → Type 0) → Type 0
StaysInEachTable P = ((sites : ℕ) → EachTable P (empty sites))
    × ((db : Database) (execution : Execution) → EachTable P db → EachTable P (after db execution))

-- The table has at most 65,536 rows and at most 8,388,608 bytes, and each row has at most 1,024 bytes.
pub record IsWithin (table : Table) : Type 0 where
  pub rows : length table.rows ≤ max_rows
  pub bytes : rows_size table.rows ≤ max_table_bytes
  pub row_bytes : All (λ row. row_size row ≤ max_row_bytes) table.rows

-- a table never has more rows or bytes than it may, nor a row more bytes than that
abbrev pub TablesStayWithin : Type 0
TablesStayWithin = StaysInEachTable IsWithin

-- no two columns have one name
abbrev pub HasDistinctColumns : Table → Type 0
HasDistinctColumns table = AllPairs (λ one other. one.name ≢ other.name) table.columns

-- no table has two columns of one name
abbrev pub ColumnsStayDistinct : Type 0
ColumnsStayDistinct = StaysInEachTable HasDistinctColumns

-- no two indexes have one name, or are on one column
abbrev pub HasDistinctIndexes : Table → Type 0
HasDistinctIndexes table = AllPairs (λ one other. (one.name ≢ other.name) × (one.column ≢ other.column)) table.indexes

-- no table has two indexes of one name, or on one column
abbrev pub IndexesStayDistinct : Type 0
IndexesStayDistinct = StaysInEachTable HasDistinctIndexes

-- the table is stored at one of this many sites
abbrev pub IsAtSite : ℕ → Table → Type 0
IsAtSite sites table = table.place ≤ sites

-- each table is stored at one of the sites of its database
abbrev pub TablesStayAtSites : Type 0
TablesStayAtSites =
    ((sites : ℕ) → EachTable (IsAtSite sites) (empty sites))
    × ((db : Database) (execution : Execution) → EachTable (IsAtSite db.sites) db
    → EachTable (IsAtSite (after db execution).sites) (after db execution))

-- ---- kinds

-- The table has at most 16 columns, and each of its rows has a value for each, of its kind.
pub record IsTyped (table : Table) : Type 0 where
  pub few : length table.columns ≤ 16
  pub kinds : All (HasKinds (map (λ column. column.kind) table.columns)) table.rows

-- each row of each table has a value for each column, of its kind, at first and after each execution of a statement that keeps
-- the limits, as each that a text spells does
abbrev pub RowsStayTyped : Type 0
RowsStayTyped =
    ((sites : ℕ) → EachTable IsTyped (empty sites))
    × ((db : Database) (execution : Execution) → KeepsLimits execution.stmt → EachTable IsTyped db
    → EachTable IsTyped (after db execution))

---- a query's answer

-- the columns that a query may name
abbrev pub columns_named : Database → Execution → Select → List ScopeColumn
columns_named db execution query =
    query_scope query.from (map (heading_in db) (map (λ table. name_of db execution table.name) query.from))

-- the kind of an item, if its column is there
abbrev pub kind_shown : List ScopeColumn → Item → Option Kind
kind_shown columns (items.Col written) = column_kind columns written
kind_shown columns items.Count = Some kinds.Int
kind_shown columns (items.Sum written) = Some kinds.Int
kind_shown columns (items.Min written) = column_kind columns written
kind_shown columns (items.Max written) = column_kind columns written

-- the kinds of a query's items; `*` shows every column
abbrev pub kinds_shown : List ScopeColumn → Option (List Item) → List (Option Kind)
kinds_shown columns None = map (λ column. Some column.kind) columns
kinds_shown columns (Some shown) = map (kind_shown columns) shown

-- over typed tables, a query that keeps the limits and is answered has a kind for each item, and each row that it answers a value for each, of its kind
abbrev pub AnswersAreTyped : Type 0
AnswersAreTyped = (db : Database) (execution : Execution) (query : Select) (given : List Answer)
    → EachTable IsTyped db → KeepsLimits execution.stmt → execution.stmt ≡ stmts.Dml (dmls.Select query)
    → (meaning db execution).1 ≡ Done given
    → (rows : List (List Value)) × (known : List Kind) × (given ≡ answers.Rows rows ∷ [])
    × AreKindsOf (kinds_shown (columns_named db execution query) query.items) known × All (HasKinds known) rows
