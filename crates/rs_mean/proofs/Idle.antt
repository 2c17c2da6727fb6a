-- A denied statement changes nothing.
use Rattle.std.proofs.Common.{◌≡◌, ℕ, List, [], ◌∷◌, ◌++◌, map, flat_map, Option, Some, None, Result, Ok, Err, refl}
use Rattle.rs_base.specs.declared.name.NameText.{NameText}
use Rattle.rs_base.specs.declared.name.Swn.{Swn}
use Rattle.rs_base.specs.declared.reply.Answer.{Answer}
use Rattle.rs_base.specs.declared.reply.Answer.TheVariants as answers
use Rattle.rs_base.specs.declared.reply.Denial.{Denial}
use Rattle.rs_base.specs.declared.value.Value.{Value}
use Rattle.rs_ast.specs.declared.select.TableRef.{TableRef}
use Rattle.rs_ast.specs.declared.stmt.Dml.{Dml}
use Rattle.rs_ast.specs.declared.stmt.Dml.TheVariants as dmls
use Rattle.rs_ast.specs.declared.stmt.Stmt.{Stmt}
use Rattle.rs_ast.specs.declared.stmt.Stmt.TheVariants as stmts
use Rattle.rs_plan.specs.declared.bound.Bound.{Bound}
use Rattle.rs_plan.specs.declared.bound.Bound.TheVariants as bounds
use Rattle.rs_bind_query.specs.Binding.{select_bound}
use Rattle.rs_bind_change.specs.Binding.{insert_bound, update_bound, delete_bound}
use Rattle.rs_scope.specs.Denials.{first_denial}
use Rattle.rs_scope.specs.declared.heading.Heading.{Heading}
use Rattle.rs_scope.specs.declared.scope.Param.{Param}
use Rattle.rs_eval.specs.Filling.{filled}
use Rattle.rs_eval.specs.RowChanges.{inserted, updated, other_rows, matching_count}
use Rattle.rs_join.specs.Selected.{selected}
use Rattle.rs_mean.specs.declared.change.Change.{Change}
use Rattle.rs_mean.specs.declared.change.Change.TheVariants as changes
use Rattle.rs_mean.specs.declared.change.Effect.{Effect}
use Rattle.rs_mean.specs.declared.execution.Execution.{Execution}
use Rattle.rs_mean.specs.Database.{Database, table_named}
use Rattle.rs_mean.specs.Effects.{done, denied, unless_denied}
use Rattle.rs_mean.specs.Meaning.{effect_of_stmt, effect_of}
use Rattle.rs_mean.specs.Names.{name_of, own_synonym, table_tests}
use Rattle.rs_mean.specs.RowStatements.{Arguments, no_arguments, Tables, only, answering, inserting, updating, effect_of_bound, once_bound, change, effect_over, tables_in, effect_of_dml}
use Rattle.rs_mean.specs.TableStatements.{create_tests, new_table, columns_of, indexes_of, column_index, create_index_tests, new_index, drop_index_tests, without_index, create_synonym_tests, drop_synonym_tests}

-- If the effect is a denial it has no change.
pub record IsIdle (effect : Effect) : Type 0 where
  pub idle : (cause : Denial) → effect.answer ≡ Err cause → effect.change ≡ changes.Nothing

done_idle : (change : Change) (answer : Answer) → IsIdle (done change answer)
done_idle change answer = record { idle = λ cause e. absurd cc }

denied_idle : (why : Denial) → IsIdle (denied why)
denied_idle why = record { idle = λ cause e. refl }

unless_idle : (denial : Option Denial) (effect : Effect) → IsIdle effect → IsIdle (unless_denied denial effect)
unless_idle None effect idle = idle
unless_idle (Some why) effect idle = denied_idle why

-- ---- statements on rows

answering_idle : (rows : Result (List (List Value)) Denial) → IsIdle (answering rows)
answering_idle (Ok rows) = done_idle changes.Nothing (answers.Rows rows)
answering_idle (Err why) = denied_idle why

inserting_idle : (name : Swn) (rows : Result (List (List Value)) Denial) → IsIdle (inserting name rows)
inserting_idle name (Ok rows) = record { idle = λ cause e. absurd cc }
inserting_idle name (Err why) = denied_idle why

updating_idle : (name : Swn) (count : ℕ) (rows : Result (List (List Value)) Denial) → IsIdle (updating name count rows)
updating_idle name count (Ok rows) = done_idle (changes.SetRows name rows) (answers.Changed count)
updating_idle name count (Err why) = denied_idle why

bound_idle : (values : List Value) (tables : List (List (List Value))) (bound : Bound) → IsIdle (effect_of_bound values tables bound)
bound_idle values tables (bounds.Select names aliases widths clauses shape) = answering_idle (selected (filled values clauses) shape tables)
bound_idle values tables (bounds.Insert name rows) = inserting_idle name (inserted values rows (only tables))
bound_idle values tables (bounds.Update name sets clauses) =
    updating_idle name (matching_count (filled values clauses) (only tables)) (updated values sets (filled values clauses) (only tables))
bound_idle values tables (bounds.Delete name clauses) =
    done_idle (changes.SetRows name (other_rows (filled values clauses) (only tables))) (answers.Changed (matching_count (filled values clauses) (only tables)))

once_idle : (values : List Value) (tables : List (List (List Value))) (bound : Result Bound Denial) → IsIdle (once_bound values tables bound)
once_idle values tables (Ok bound) = bound_idle values tables bound
once_idle values tables (Err why) = denied_idle why

module _ (arguments : Arguments) (tables : Tables) where
  change_idle : (name : Swn) (bind : Heading → List Param → Result Bound Denial) → IsIdle (change arguments tables name bind)
  change_idle name bind =
      let bound : Result Bound Denial = bind (tables.heading name) arguments.params in
      unless_idle (first_denial (tables.tests name)) (once_bound arguments.values (tables.rows name ∷ []) bound) (once_idle arguments.values (tables.rows name ∷ []) bound)

  over_idle : (name : NameText → Swn) (dml : Dml) → IsIdle (effect_over arguments tables name dml)
  over_idle name (dmls.Select query) =
      let names : List Swn = map (λ (table : TableRef). name table.name) query.from in
      let bound : Result Bound Denial = select_bound query (map tables.heading names) arguments.params in
      unless_idle (first_denial (flat_map tables.tests names)) (once_bound arguments.values (map tables.rows names) bound) (once_idle arguments.values (map tables.rows names) bound)
  over_idle name (dmls.Insert written rows) = change_idle (name written) (insert_bound rows)
  over_idle name (dmls.Update written sets clauses) = change_idle (name written) (update_bound sets clauses)
  over_idle name (dmls.Delete written clauses) = change_idle (name written) (delete_bound clauses)

-- ---- every statement

module _ (db : Database) (execution : Execution) where
  dml_idle : (arguments : Arguments) (dml : Dml) → IsIdle (effect_of_dml arguments db execution dml)
  unfolding effect_of_dml
  dml_idle arguments dml = over_idle arguments (tables_in db) (name_of db execution) dml

  stmt_idle : (stmt : Stmt) → IsIdle (effect_of_stmt db execution stmt)
  stmt_idle (stmts.CreateTable written columns) =
      let name : Swn = name_of db execution written in
      let effect : Effect = done (changes.PutTable name (new_table execution.txn name columns)) answers.Ok in
      unless_idle (first_denial (create_tests db name columns)) effect (done_idle effect.change answers.Ok)
  stmt_idle (stmts.DropTable written) =
      let name : Swn = name_of db execution written in
      unless_idle (first_denial (table_tests db name)) (done (changes.DropTable name) answers.Ok) (done_idle (changes.DropTable name) answers.Ok)
  stmt_idle (stmts.CreateIndex index written column) =
      let name : Swn = name_of db execution written in
      let new : Change = changes.SetIndexes name (indexes_of (table_named name db) ++ new_index execution.txn index (column_index (columns_of (table_named name db)) column) ∷ []) in
      unless_idle (first_denial (create_index_tests db name index column)) (done new answers.Ok) (done_idle new answers.Ok)
  stmt_idle (stmts.DropIndex index written) =
      let name : Swn = name_of db execution written in
      let new : Change = changes.SetIndexes name (without_index index (indexes_of (table_named name db))) in
      unless_idle (first_denial (drop_index_tests db name index)) (done new answers.Ok) (done_idle new answers.Ok)
  stmt_idle (stmts.CreateSynonym synonym written) =
      let name : Swn = name_of db execution written in
      let new : Change = changes.PutSynonym (own_synonym execution synonym) name in
      unless_idle (first_denial (create_synonym_tests db execution synonym name)) (done new answers.Ok) (done_idle new answers.Ok)
  stmt_idle (stmts.DropSynonym synonym) =
      let new : Change = changes.DropSynonym (own_synonym execution synonym) in
      unless_idle (first_denial (drop_synonym_tests db execution synonym)) (done new answers.Ok) (done_idle new answers.Ok)
  stmt_idle (stmts.Migrate written to) = done_idle changes.Nothing answers.Ok
  stmt_idle (stmts.Compile program params body) = done_idle changes.Nothing answers.Ok
  stmt_idle (stmts.DropProgram program) = done_idle changes.Nothing answers.Ok
  stmt_idle (stmts.Execute program values) = done_idle changes.Nothing answers.Ok
  stmt_idle (stmts.Explain query) = done_idle changes.Nothing answers.Ok
  stmt_idle stmts.ShowSections = done_idle changes.Nothing answers.Ok
  stmt_idle stmts.ShowCache = done_idle changes.Nothing answers.Ok
  stmt_idle (stmts.Dml dml) = dml_idle no_arguments dml

  -- an execution that is denied changes nothing
  pub effect_idle : IsIdle (effect_of db execution)
  unfolding effect_of
  effect_idle = stmt_idle execution.stmt
