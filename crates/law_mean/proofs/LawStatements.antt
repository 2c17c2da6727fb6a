-- What each done statement changes and answers.
use Rattle.std.proofs.Common.{◌≡◌, ℕ, Bool, true, false, not, cond, ◌||◌, List, [], ◌∷◌, ◌++◌, map, flat_map, length, Option, Some, None, is_some, is_none, Result, Ok, Err, refl, sym, ap, ◌∙◌, subst}
use Rattle.rs_base.specs.declared.name.Swn.{Swn}
use Rattle.rs_base.specs.declared.reply.Answer.{Answer}
use Rattle.rs_base.specs.declared.reply.Answer.TheVariants as answers
use Rattle.rs_base.specs.declared.reply.Denial.{Denial}
use Rattle.rs_base.specs.declared.reply.Denial.TheVariants as denials
use Rattle.rs_base.specs.declared.txn.Txn.{Txn}
use Rattle.rs_base.specs.declared.value.Value.{Value}
use Rattle.rs_ast.specs.declared.bound.BoundCmp.{BoundCmp}
use Rattle.rs_ast.specs.declared.bound.BoundSet.{BoundSet}
use Rattle.rs_ast.specs.declared.change.Set.{Set}
use Rattle.rs_ast.specs.declared.change.Term.{Term}
use Rattle.rs_ast.specs.declared.clause.Clause.{Clause}
use Rattle.rs_ast.specs.declared.column.ColDef.{ColDef}
use Rattle.rs_ast.specs.declared.entry.IndexOf.{IndexOf}
use Rattle.rs_ast.specs.declared.select.Select.{Select}
use Rattle.rs_ast.specs.declared.stmt.Dml.{Dml}
use Rattle.rs_ast.specs.declared.stmt.Dml.TheVariants as dmls
use Rattle.rs_ast.specs.declared.stmt.Stmt.{Stmt}
use Rattle.rs_ast.specs.declared.stmt.Stmt.TheVariants as stmts
use Rattle.rs_plan.specs.declared.bound.Bound.TheVariants as bounds
use Rattle.rs_bind_query.specs.Binding.{select_bound, bound_select, shape_of}
use Rattle.rs_bind_change.specs.Binding.{bound_rows, bound_set, insert_bound, update_bound, delete_bound}
use Rattle.rs_scope.specs.Predicates.{bound_clauses}
use Rattle.rs_plan.specs.Outcome as binding
use Rattle.rs_bind_query.specs.Denials.{select_tests}
use Rattle.rs_bind_change.specs.Denials.{insert_tests, update_tests, delete_tests, sets_tests}
use Rattle.rs_scope.specs.Denials.{Test, test, first_denial, clauses_tests}
use Rattle.rs_scope.specs.Scope.{query_scope, table_scope}
use Rattle.rs_scope.specs.declared.heading.Heading.{Heading}
use Rattle.rs_scope.specs.declared.scope.ScopeColumn.{ScopeColumn}
use Rattle.rs_bind.proofs.OverTests.{both_pass}
use Rattle.rs_mean.specs.declared.change.Change.{Change}
use Rattle.rs_mean.specs.declared.change.Change.TheVariants as changes
use Rattle.rs_mean.specs.declared.execution.Execution.{Execution}
use Rattle.rs_mean.specs.Columns.{names_differ, has_name}
use Rattle.rs_mean.specs.Database.{Database, table_named, target_of}
use Rattle.rs_mean.specs.Effects.{done}
use Rattle.rs_mean.specs.Meaning.{effect_of_stmt, effect_of, meaning}
use Rattle.rs_mean.specs.Names.{name_of, names_no_site, own_synonym, site_test, table_tests}
use Rattle.rs_mean.specs.Outcome.{Done}
use Rattle.rs_eval.specs.Filling.{filled}
use Rattle.rs_eval.specs.RowChanges.{given_rows, has_room, inserted, updated_rows, may_become, within_limits, updated, other_rows, matching_count}
use Rattle.rs_mean.specs.RowStatements.{rows_in, heading_in, answering, inserting, updating, no_arguments, once_bound, tables_in, select, insert, update, delete, effect_of_dml}
use Rattle.rs_join.specs.Selected.{selected}
use Rattle.rs_mean.specs.TableStatements.{create_tests, new_table, create_table, drop_table, columns_of, indexes_of, column_index, has_index, is_indexed, create_index_tests, new_index, create_index, drop_index_tests, without_index, drop_index, create_synonym_tests, create_synonym, drop_synonym_tests, drop_synonym}
use Rattle.rs_eval.proofs.Unfilled.{clauses_stay}
use Rattle.rs_mean.proofs.Meanings.{outcome_is}
use Rattle.law_mean.proofs.LawTests.{passed, holds_if, absent_if, neither}
use Rattle.law_mean.proofs.LawEffects.{IsSo, so_denied, so_done, so_unless}

-- ---- CREATE TABLE, DROP TABLE

pub record Creates (db : Database) (txn : Txn) (name : Swn) (columns : List ColDef) (change : Change) (given : List Answer) : Type 0 where
  pub is : change ≡ changes.PutTable name (new_table txn name columns)
  pub answers : given ≡ answers.Ok ∷ []
  pub home : names_no_site db name ≡ false
  pub differ : names_differ columns ≡ true
  pub absent : table_named name db ≡ None

create_so : (db : Database) (txn : Txn) (name : Swn) (columns : List ColDef) → IsSo (Creates db txn name columns) (create_table db txn name columns)
create_so db txn name columns =
    so_unless (Creates db txn name columns) (first_denial (create_tests db name columns)) (done (changes.PutTable name (new_table txn name columns)) answers.Ok)
    (λ e.
    let no_table : Test = test (is_some (table_named name db)) denials.TableExists in
    let one_name : Test = test (not (names_differ columns)) denials.TwoColumns in
    let sites = passed (site_test db name) (one_name ∷ no_table ∷ []) e in
    let names = passed one_name (no_table ∷ []) sites.1 in
    let found = passed no_table [] names.1 in
    so_done (Creates db txn name columns) (changes.PutTable name (new_table txn name columns)) answers.Ok
    (record { is = refl; answers = refl; home = sites.0; differ = holds_if (names_differ columns) names.0; absent = absent_if (table_named name db) found.0 }))

-- the table is there
abbrev pub IsThere : Database → Swn → Type 0
IsThere db name = is_none (table_named name db) ≡ false

-- the tests of a table, and others after them
there : (db : Database) (name : Swn) (tests : List Test) → first_denial (table_tests db name ++ tests) ≡ None → IsThere db name × (first_denial tests ≡ None)
there db name tests e = passed (test (is_none (table_named name db)) denials.NoTable) tests (passed (site_test db name) (test (is_none (table_named name db)) denials.NoTable ∷ tests) e).1

pub record Drops (db : Database) (name : Swn) (change : Change) (given : List Answer) : Type 0 where
  pub is : change ≡ changes.DropTable name
  pub answers : given ≡ answers.Ok ∷ []
  pub there : IsThere db name

drop_so : (db : Database) (name : Swn) → IsSo (Drops db name) (drop_table db name)
drop_so db name =
    so_unless (Drops db name) (first_denial (table_tests db name)) (done (changes.DropTable name) answers.Ok)
    (λ e. so_done (Drops db name) (changes.DropTable name) answers.Ok (record { is = refl; answers = refl; there = (there db name [] e).0 }))

-- ---- CREATE INDEX, DROP INDEX

abbrev pub indexes_in : Database → Swn → List IndexOf
indexes_in db name = indexes_of (table_named name db)

abbrev pub index_in : Database → Swn → List ℕ → ℕ
index_in db name column = column_index (columns_of (table_named name db)) column

pub record AddsIndex (db : Database) (txn : Txn) (name : Swn) (index column : List ℕ) (change : Change) (given : List Answer) : Type 0 where
  pub is : change ≡ changes.SetIndexes name (indexes_in db name ++ new_index txn index (index_in db name column) ∷ [])
  pub answers : given ≡ answers.Ok ∷ []
  pub there : IsThere db name
  pub named : has_name (columns_of (table_named name db)) column ≡ true
  pub new_name : has_index (indexes_in db name) index ≡ false
  pub new_column : is_indexed (indexes_in db name) (index_in db name column) ≡ false

create_index_so : (db : Database) (txn : Txn) (name : Swn) (index column : List ℕ) → IsSo (AddsIndex db txn name index column) (create_index db txn name index column)
create_index_so db txn name index column =
    let change : Change = changes.SetIndexes name (indexes_in db name ++ new_index txn index (index_in db name column) ∷ []) in
    so_unless (AddsIndex db txn name index column) (first_denial (create_index_tests db name index column)) (done change answers.Ok)
    (λ e.
    let clash : Bool = has_index (indexes_in db name) index || is_indexed (indexes_in db name) (index_in db name column) in
    let tests : List Test = test clash denials.IndexExists ∷ [] in
    let table = there db name (test (not (has_name (columns_of (table_named name db)) column)) denials.NoColumn ∷ tests) e in
    let named = passed (test (not (has_name (columns_of (table_named name db)) column)) denials.NoColumn) tests table.1 in
    let new = neither (has_index (indexes_in db name) index) (is_indexed (indexes_in db name) (index_in db name column)) (passed (test clash denials.IndexExists) [] named.1).0 in
    so_done (AddsIndex db txn name index column) change answers.Ok
    (record { is = refl; answers = refl; there = table.0; named = holds_if (has_name (columns_of (table_named name db)) column) named.0; new_name = new.0; new_column = new.1 }))

pub record DropsIndex (db : Database) (name : Swn) (index : List ℕ) (change : Change) (given : List Answer) : Type 0 where
  pub is : change ≡ changes.SetIndexes name (without_index index (indexes_in db name))
  pub answers : given ≡ answers.Ok ∷ []
  pub there : IsThere db name
  pub indexed : has_index (indexes_in db name) index ≡ true

drop_index_so : (db : Database) (name : Swn) (index : List ℕ) → IsSo (DropsIndex db name index) (drop_index db name index)
drop_index_so db name index =
    let change : Change = changes.SetIndexes name (without_index index (indexes_in db name)) in
    so_unless (DropsIndex db name index) (first_denial (drop_index_tests db name index)) (done change answers.Ok)
    (λ e.
    let no_index : Test = test (not (has_index (indexes_in db name) index)) denials.NoIndex in
    let table = there db name (no_index ∷ []) e in
    so_done (DropsIndex db name index) change answers.Ok
    (record { is = refl; answers = refl; there = table.0; indexed = holds_if (has_index (indexes_in db name) index) (passed no_index [] table.1).0 }))

-- ---- CREATE SYNONYM, DROP SYNONYM

pub record AddsSynonym (db : Database) (execution : Execution) (synonym : List ℕ) (name : Swn) (change : Change) (given : List Answer) : Type 0 where
  pub is : change ≡ changes.PutSynonym (own_synonym execution synonym) name
  pub answers : given ≡ answers.Ok ∷ []
  pub absent : target_of (own_synonym execution synonym) db ≡ None

create_synonym_so : (db : Database) (execution : Execution) (synonym : List ℕ) (name : Swn)
    → IsSo (AddsSynonym db execution synonym name) (create_synonym db execution synonym name)
create_synonym_so db execution synonym name =
    let change : Change = changes.PutSynonym (own_synonym execution synonym) name in
    so_unless (AddsSynonym db execution synonym name) (first_denial (create_synonym_tests db execution synonym name)) (done change answers.Ok)
    (λ e.
    let taken : Test = test (is_some (target_of (own_synonym execution synonym) db)) denials.SynonymExists in
    let free = passed taken [] (passed (site_test db name) (taken ∷ []) e).1 in
    so_done (AddsSynonym db execution synonym name) change answers.Ok
    (record { is = refl; answers = refl; absent = absent_if (target_of (own_synonym execution synonym) db) free.0 }))

pub record DropsSynonym (db : Database) (execution : Execution) (synonym : List ℕ) (change : Change) (given : List Answer) : Type 0 where
  pub is : change ≡ changes.DropSynonym (own_synonym execution synonym)
  pub answers : given ≡ answers.Ok ∷ []
  pub there : is_some (target_of (own_synonym execution synonym) db) ≡ true

drop_synonym_so : (db : Database) (execution : Execution) (synonym : List ℕ) → IsSo (DropsSynonym db execution synonym) (drop_synonym db execution synonym)
drop_synonym_so db execution synonym =
    let change : Change = changes.DropSynonym (own_synonym execution synonym) in
    so_unless (DropsSynonym db execution synonym) (first_denial (drop_synonym_tests db execution synonym)) (done change answers.Ok)
    (λ e.
    let found : Bool = is_some (target_of (own_synonym execution synonym) db) in
    so_done (DropsSynonym db execution synonym) change answers.Ok
    (record { is = refl; answers = refl; there = holds_if found (passed (test (not found) denials.NoSynonym) [] e).0 }))

-- ---- SELECT

-- the columns that a query may name, over tables of these names
abbrev pub scope_among : Database → List Swn → Select → List ScopeColumn
scope_among db names query = query_scope query.from (map (heading_in db) names)

pub record Selects (db : Database) (names : List Swn) (query : Select) (change : Change) (given : List Answer) : Type 0 where
  pub rows : List (List Value)
  pub is : change ≡ changes.Nothing
  pub answers : given ≡ answers.Rows rows ∷ []
  pub fit : first_denial (select_tests query (map (heading_in db) names) []) ≡ None
  pub found : selected (bound_clauses (scope_among db names query) [] query.clauses) (shape_of (scope_among db names query) query) (map (rows_in db) names) ≡ Ok rows

module _ (db : Database) (names : List Swn) (query : Select) where
  abbrev scope : List ScopeColumn
  scope = scope_among db names query

  abbrev tests : List Test
  tests = select_tests query (map (heading_in db) names) []

  abbrev predicate : List (List BoundCmp)
  predicate = bound_clauses scope [] query.clauses

  abbrev found_by : List (List BoundCmp) → Result (List (List Value)) Denial
  found_by clauses = selected clauses (shape_of scope query) (map (rows_in db) names)

  answering_so : first_denial tests ≡ None → (rows : Result (List (List Value)) Denial) → found_by (filled [] predicate) ≡ rows → IsSo (Selects db names query) (answering rows)
  answering_so fit (Ok rows) e =
      so_done (Selects db names query) changes.Nothing (answers.Rows rows)
      (record { rows = rows; is = refl; answers = refl; fit = fit; found = ap found_by (sym (clauses_stay predicate)) ∙ e })
  answering_so fit (Err cause) e = so_denied (Selects db names query) cause

  select_so : IsSo (Selects db names query) (select no_arguments (tables_in db) names query)
  unfolding select_bound
  select_so =
      let headings : List Heading = map (heading_in db) names in
      let tables : List (List (List Value)) = map (rows_in db) names in
      let Claim : Option Denial → Type 0 = λ denial. first_denial tests ≡ denial
      → IsSo (Selects db names query) (once_bound [] tables (binding.unless_denied denial (bound_select query headings []))) in
      let at : (denial : Option Denial) → Claim denial = λ denial. elim denial as Claim [
        | None ↦ λ fit. answering_so fit (found_by (filled [] predicate)) refl
        | Some cause ↦ λ e. so_denied (Selects db names query) cause
      ] in
      so_unless (Selects db names query) (first_denial (flat_map (table_tests db) names)) (once_bound [] tables (select_bound query headings []))
      (λ e. at (first_denial tests) refl)

-- ---- INSERT

abbrev pub scope_in : Database → Swn → List ScopeColumn
scope_in db name = table_scope (heading_in db name)

-- the rows that an INSERT names
abbrev pub rows_given : Database → Swn → List (List Term) → List (List Value)
rows_given db name rows = given_rows [] (bound_rows (scope_in db name) [] rows)

-- no test of kinds denies the rows
abbrev pub RowsFit : Database → Swn → List (List Term) → Type 0
RowsFit db name rows = first_denial (insert_tests rows (scope_in db name) []) ≡ None

pub record Inserts (db : Database) (name : Swn) (rows : List (List Term)) (change : Change) (given : List Answer) : Type 0 where
  pub is : change ≡ changes.AppendRows name (rows_given db name rows)
  pub answers : given ≡ answers.Changed (length (rows_given db name rows)) ∷ []
  pub there : IsThere db name
  pub fit : RowsFit db name rows
  pub room : has_room (rows_in db name) (rows_given db name rows) ≡ true

module _ (db : Database) (name : Swn) (rows : List (List Term)) (is_there : IsThere db name) (fit : RowsFit db name rows) where
  inserting_so : IsSo (Inserts db name rows) (inserting name (inserted [] (bound_rows (scope_in db name) [] rows) (rows_in db name)))
  inserting_so =
      let new : List (List Value) = rows_given db name rows in
      let Claim : Bool → Type 0 = λ room. has_room (rows_in db name) new ≡ room → IsSo (Inserts db name rows) (inserting name (cond {A = Result (List (List Value)) Denial} room (Ok new) (Err denials.TableFull))) in
      let at : (room : Bool) → Claim room = λ room. elim room as Claim [
        | true ↦ λ e. so_done (Inserts db name rows) (changes.AppendRows name new) (answers.Changed (length new))
            (record { is = refl; answers = refl; there = is_there; fit = fit; room = e })
        | false ↦ λ e. so_denied (Inserts db name rows) denials.TableFull
      ] in
      at (has_room (rows_in db name) new) refl

insert_so : (db : Database) (name : Swn) (rows : List (List Term)) → IsSo (Inserts db name rows) (insert no_arguments (tables_in db) name rows)
unfolding insert_bound
insert_so db name rows =
    let tables : List (List (List Value)) = rows_in db name ∷ [] in
    let Claim : Option Denial → Type 0 = λ denial. first_denial (insert_tests rows (scope_in db name) []) ≡ denial
    → IsSo (Inserts db name rows) (once_bound [] tables (binding.unless_denied denial (bounds.Insert name (bound_rows (scope_in db name) [] rows)))) in
    let at : IsThere db name → (denial : Option Denial) → Claim denial = λ is_there denial. elim denial as Claim [
      | None ↦ λ fit. inserting_so db name rows is_there fit
      | Some cause ↦ λ e. so_denied (Inserts db name rows) cause
    ] in
    so_unless (Inserts db name rows) (first_denial (table_tests db name)) (once_bound [] tables (insert_bound rows (heading_in db name) []))
    (λ e. at (there db name [] e).0 (first_denial (insert_tests rows (scope_in db name) [])) refl)

-- ---- UPDATE

-- no test of names and kinds denies the assignments
abbrev pub SetsFit : Database → Swn → List Set → Type 0
SetsFit db name sets = first_denial (sets_tests (scope_in db name) [] [] sets) ≡ None

-- the assignments of an UPDATE
abbrev pub sets_in : Database → Swn → List Set → List BoundSet
sets_in db name sets = map (bound_set (scope_in db name) []) sets

pub record Updates (db : Database) (name : Swn) (sets : List Set) (written : List Clause) (change : Change) (given : List Answer) : Type 0 where
  pub clauses : List (List BoundCmp)
  pub bound : clauses ≡ bound_clauses (scope_in db name) [] written
  pub new : List (List Value)
  pub is : change ≡ changes.SetRows name new
  pub answers : given ≡ answers.Changed (matching_count clauses (rows_in db name)) ∷ []
  pub there : IsThere db name
  pub fit : SetsFit db name sets
  pub made : updated_rows [] (sets_in db name sets) clauses (rows_in db name) ≡ Ok new
  pub within : may_become clauses (rows_in db name) new ≡ true

module _ (db : Database) (name : Swn) (sets : List Set) (written : List Clause) (clauses : List (List BoundCmp)) (bound : clauses ≡ bound_clauses (scope_in db name) [] written) (is_there : IsThere db name) (fit : SetsFit db name sets) where
  within_so : (new : List (List Value)) → updated_rows [] (sets_in db name sets) clauses (rows_in db name) ≡ Ok new
      → IsSo (Updates db name sets written) (updating name (matching_count clauses (rows_in db name)) (within_limits clauses (rows_in db name) (Ok new)))
  within_so new made =
      let Claim : Bool → Type 0 = λ within. may_become clauses (rows_in db name) new ≡ within
      → IsSo (Updates db name sets written) (updating name (matching_count clauses (rows_in db name)) (cond {A = Result (List (List Value)) Denial} within (Ok new) (Err denials.TableFull))) in
      let at : (within : Bool) → Claim within = λ within. elim within as Claim [
        | true ↦ λ e. so_done (Updates db name sets written) (changes.SetRows name new) (answers.Changed (matching_count clauses (rows_in db name)))
            (record { clauses = clauses; bound = bound; new = new; is = refl; answers = refl; there = is_there; fit = fit; made = made; within = e })
        | false ↦ λ e. so_denied (Updates db name sets written) denials.TableFull
      ] in
      at (may_become clauses (rows_in db name) new) refl

  updating_so : IsSo (Updates db name sets written) (updating name (matching_count clauses (rows_in db name)) (updated [] (sets_in db name sets) clauses (rows_in db name)))
  updating_so =
      let Claim : Result (List (List Value)) Denial → Type 0 = λ rows. updated_rows [] (sets_in db name sets) clauses (rows_in db name) ≡ rows
      → IsSo (Updates db name sets written) (updating name (matching_count clauses (rows_in db name)) (within_limits clauses (rows_in db name) rows)) in
      let at : (rows : Result (List (List Value)) Denial) → Claim rows = λ rows. elim rows as Claim [
        | Ok new ↦ λ e. within_so new e
        | Err cause ↦ λ e. so_denied (Updates db name sets written) cause
      ] in
      at (updated_rows [] (sets_in db name sets) clauses (rows_in db name)) refl

update_so : (db : Database) (name : Swn) (sets : List Set) (clauses : List Clause) → IsSo (Updates db name sets clauses) (update no_arguments (tables_in db) name sets clauses)
unfolding update_bound
update_so db name sets clauses =
    let tables : List (List (List Value)) = rows_in db name ∷ [] in
    let predicate : List (List BoundCmp) = bound_clauses (scope_in db name) [] clauses in
    let tests : List Test = update_tests sets clauses (scope_in db name) [] in
    let Claim : Option Denial → Type 0 = λ denial. first_denial tests ≡ denial
    → IsSo (Updates db name sets clauses) (once_bound [] tables (binding.unless_denied denial (bounds.Update name (sets_in db name sets) predicate))) in
    let at : IsThere db name → (denial : Option Denial) → Claim denial = λ is_there denial. elim denial as Claim [
      | None ↦ λ e. updating_so db name sets clauses (filled [] predicate) (clauses_stay predicate) is_there (both_pass (sets_tests (scope_in db name) [] [] sets) (clauses_tests (scope_in db name) [] clauses) e).0
      | Some cause ↦ λ e. so_denied (Updates db name sets clauses) cause
    ] in
    so_unless (Updates db name sets clauses) (first_denial (table_tests db name)) (once_bound [] tables (update_bound sets clauses (heading_in db name) []))
    (λ e. at (there db name [] e).0 (first_denial tests) refl)

-- ---- DELETE

pub record Deletes (db : Database) (name : Swn) (written : List Clause) (change : Change) (given : List Answer) : Type 0 where
  pub clauses : List (List BoundCmp)
  pub bound : clauses ≡ bound_clauses (scope_in db name) [] written
  pub is : change ≡ changes.SetRows name (other_rows clauses (rows_in db name))
  pub answers : given ≡ answers.Changed (matching_count clauses (rows_in db name)) ∷ []
  pub there : IsThere db name

delete_so : (db : Database) (name : Swn) (clauses : List Clause) → IsSo (Deletes db name clauses) (delete no_arguments (tables_in db) name clauses)
unfolding delete_bound
delete_so db name clauses =
    let tables : List (List (List Value)) = rows_in db name ∷ [] in
    let predicate : List (List BoundCmp) = bound_clauses (scope_in db name) [] clauses in
    let Claim : Option Denial → Type 0 = λ denial. IsSo (Deletes db name clauses) (once_bound [] tables (binding.unless_denied denial (bounds.Delete name predicate))) in
    let at : IsThere db name → (denial : Option Denial) → Claim denial = λ is_there denial. elim denial as Claim [
      | None ↦ so_done (Deletes db name clauses) (changes.SetRows name (other_rows (filled [] predicate) (rows_in db name)))
          (answers.Changed (matching_count (filled [] predicate) (rows_in db name)))
          (record { clauses = filled [] predicate; bound = clauses_stay predicate; is = refl; answers = refl; there = is_there })
      | Some cause ↦ so_denied (Deletes db name clauses) cause
    ] in
    so_unless (Deletes db name clauses) (first_denial (table_tests db name)) (once_bound [] tables (delete_bound clauses (heading_in db name) []))
    (λ e. at (there db name [] e).0 (first_denial (delete_tests clauses (scope_in db name) [])))

-- ---- every statement

-- A statement that isn't executed so far changes nothing.
pub record DoesNothing (change : Change) (given : List Answer) : Type 0 where
  pub is : change ≡ changes.Nothing

nothing_so : IsSo DoesNothing (done changes.Nothing answers.Ok)
nothing_so = so_done DoesNothing changes.Nothing answers.Ok (record { is = refl })

abbrev pub DoesOfDml : Database → Execution → Dml → Change → List Answer → Type 0
DoesOfDml db execution (dmls.Select query) = Selects db (map (λ table. name_of db execution table.name) query.from) query
DoesOfDml db execution (dmls.Insert written rows) = Inserts db (name_of db execution written) rows
DoesOfDml db execution (dmls.Update written sets clauses) = Updates db (name_of db execution written) sets clauses
DoesOfDml db execution (dmls.Delete written clauses) = Deletes db (name_of db execution written) clauses

-- what the statement changes and answers if it is done
abbrev pub Does : Database → Execution → Stmt → Change → List Answer → Type 0
Does db execution (stmts.CreateTable written columns) = Creates db execution.txn (name_of db execution written) columns
Does db execution (stmts.DropTable written) = Drops db (name_of db execution written)
Does db execution (stmts.CreateIndex index written column) = AddsIndex db execution.txn (name_of db execution written) index column
Does db execution (stmts.DropIndex index written) = DropsIndex db (name_of db execution written) index
Does db execution (stmts.CreateSynonym synonym written) = AddsSynonym db execution synonym (name_of db execution written)
Does db execution (stmts.DropSynonym synonym) = DropsSynonym db execution synonym
Does db execution (stmts.Dml dml) = DoesOfDml db execution dml
Does db execution stmt = DoesNothing

dml_so : (db : Database) (execution : Execution) (dml : Dml) → IsSo (DoesOfDml db execution dml) (effect_of_dml no_arguments db execution dml)
unfolding effect_of_dml
dml_so db execution (dmls.Select query) = select_so db (map (λ table. name_of db execution table.name) query.from) query
dml_so db execution (dmls.Insert written rows) = insert_so db (name_of db execution written) rows
dml_so db execution (dmls.Update written sets clauses) = update_so db (name_of db execution written) sets clauses
dml_so db execution (dmls.Delete written clauses) = delete_so db (name_of db execution written) clauses

stmt_so : (db : Database) (execution : Execution) (stmt : Stmt) → IsSo (Does db execution stmt) (effect_of_stmt db execution stmt)
stmt_so db execution (stmts.CreateTable written columns) = create_so db execution.txn (name_of db execution written) columns
stmt_so db execution (stmts.DropTable written) = drop_so db (name_of db execution written)
stmt_so db execution (stmts.CreateIndex index written column) = create_index_so db execution.txn (name_of db execution written) index column
stmt_so db execution (stmts.DropIndex index written) = drop_index_so db (name_of db execution written) index
stmt_so db execution (stmts.CreateSynonym synonym written) = create_synonym_so db execution synonym (name_of db execution written)
stmt_so db execution (stmts.DropSynonym synonym) = drop_synonym_so db execution synonym
stmt_so db execution (stmts.Dml dml) = dml_so db execution dml
stmt_so db execution stmt = nothing_so

-- the effect of an execution is that of its statement
pub effect_so : (db : Database) (execution : Execution) → IsSo (Does db execution execution.stmt) (effect_of db execution)
unfolding effect_of
effect_so db execution = stmt_so db execution execution.stmt

-- what an execution of this statement changes and answers if it is done
pub does : (db : Database) (execution : Execution) (stmt : Stmt) (given : List Answer) → execution.stmt ≡ stmt → (meaning db execution).1 ≡ Done given
    → Does db execution stmt (effect_of db execution).change given
does db execution stmt given is e =
    subst (λ (s : Stmt). Does db execution s (effect_of db execution).change given) is ((effect_so db execution).so given (sym (outcome_is db execution) ∙ e))
