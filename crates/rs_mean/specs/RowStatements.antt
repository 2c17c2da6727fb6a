-- The effects of statements on rows, with values for their parameters.
use Rattle.std.specs.Prelude.{ℕ, List, [], ◌∷◌, map, flat_map, length, Option, Some, None, Result, Ok, Err}
use Rattle.rs_base.specs.declared.name.NameText.{NameText}
use Rattle.rs_base.specs.declared.name.Swn.{Swn}
use Rattle.rs_base.specs.declared.reply.Answer.TheVariants as answers
use Rattle.rs_base.specs.declared.reply.Denial.{Denial}
use Rattle.rs_base.specs.declared.value.Value.{Value}
use Rattle.rs_ast.specs.declared.bound.BoundCmp.{BoundCmp}
use Rattle.rs_ast.specs.declared.change.Set.{Set}
use Rattle.rs_ast.specs.declared.change.Term.{Term}
use Rattle.rs_ast.specs.declared.clause.Clause.{Clause}
use Rattle.rs_ast.specs.declared.select.Select.{Select}
use Rattle.rs_ast.specs.declared.stmt.Dml.{Dml}
use Rattle.rs_ast.specs.declared.stmt.Dml.TheVariants as dmls
use Rattle.rs_plan.specs.declared.bound.Bound.{Bound}
use Rattle.rs_plan.specs.declared.bound.Bound.TheVariants as bounds
use Rattle.rs_bind_query.specs.Binding.{select_bound}
use Rattle.rs_bind_change.specs.Binding.{insert_bound, update_bound, delete_bound}
use Rattle.rs_scope.specs.Denials.{Test, first_denial}
use Rattle.rs_scope.specs.declared.heading.Heading.{Heading}
use Rattle.rs_scope.specs.declared.scope.Param.{Param}
use Rattle.rs_join.specs.Selected.{selected}
use Rattle.rs_mean.specs.declared.change.Change.TheVariants as changes
use Rattle.rs_mean.specs.declared.change.Effect.{Effect}
use Rattle.rs_mean.specs.declared.execution.Execution.{Execution}
use Rattle.rs_mean.specs.declared.table.Table.{Table}
use Rattle.rs_mean.specs.Database.{Database, table_named}
use Rattle.rs_mean.specs.Effects.{done, denied, unless_denied}
use Rattle.rs_mean.specs.Names.{name_of, table_tests}
use Rattle.rs_eval.specs.Filling.{filled}
use Rattle.rs_eval.specs.RowChanges.{inserted, updated, other_rows, matching_count}
use Rattle.rs_mean.specs.TableStatements.{columns_of}

-- ---- tables of a database

abbrev pub rows_of : Option Table → List (List Value)
rows_of None = []
rows_of (Some table) = table.rows

abbrev pub rows_in : Database → Swn → List (List Value)
rows_in db name = rows_of (table_named name db)

abbrev pub heading_in : Database → Swn → Heading
heading_in db name = record { name = name; columns = columns_of (table_named name db) }

-- ---- bound statements

-- The parameters of a statement, with the kinds of their values, and the values.
pub record Arguments : Type 0 where
  pub params : List Param
  pub values : List Value

-- those of a statement that isn't of a program
abbrev pub no_arguments : Arguments
no_arguments = record { params = []; values = [] }

abbrev pub answering : Result (List (List Value)) Denial → Effect
answering (Ok rows) = done changes.Nothing (answers.Rows rows)
answering (Err cause) = denied cause

abbrev pub inserting : Swn → Result (List (List Value)) Denial → Effect
inserting name (Ok rows) = done (changes.AppendRows name rows) (answers.Changed (length rows))
inserting name (Err cause) = denied cause

abbrev pub updating : Swn → ℕ → Result (List (List Value)) Denial → Effect
updating name count (Ok rows) = done (changes.SetRows name rows) (answers.Changed count)
updating name count (Err cause) = denied cause

abbrev pub deleting : Swn → List (List BoundCmp) → List (List Value) → Effect
deleting name clauses rows =
    done (changes.SetRows name (other_rows clauses rows)) (answers.Changed (matching_count clauses rows))

-- the rows of the one table of a change
abbrev pub only : List (List (List Value)) → List (List Value)
only [] = []
only (rows ∷ tables) = rows

-- the effect of a bound statement with the values of its parameters, over the rows of its tables in order
abbrev pub effect_of_bound : List Value → List (List (List Value)) → Bound → Effect
effect_of_bound values tables (bounds.Select names aliases widths clauses shape) =
    answering (selected (filled values clauses) shape tables)
effect_of_bound values tables (bounds.Insert name rows) = inserting name (inserted values rows (only tables))
effect_of_bound values tables (bounds.Update name sets clauses) =
    updating name (matching_count (filled values clauses) (only tables))
    (updated values sets (filled values clauses) (only tables))
effect_of_bound values tables (bounds.Delete name clauses) = deleting name (filled values clauses) (only tables)

abbrev pub once_bound : List Value → List (List (List Value)) → Result Bound Denial → Effect
once_bound values tables (Ok bound) = effect_of_bound values tables bound
once_bound values tables (Err cause) = denied cause

---- statements: whether the tables exist; the names and kinds; and then the rows

-- A statement's view of tables: the tests of a name, which has to be that of a table, and its columns and rows.
pub record Tables : Type 0 where
  pub tests : Swn → List Test
  pub heading : Swn → Heading
  pub rows : Swn → List (List Value)

abbrev pub select : Arguments → Tables → List Swn → Select → Effect
select arguments tables names query =
    unless_denied (first_denial (flat_map tables.tests names))
    (once_bound arguments.values (map tables.rows names) (select_bound query (map tables.heading names) arguments.params))

-- a query, with names resolved by this function
abbrev pub query : Arguments → Tables → (NameText → Swn) → Select → Effect
query arguments tables name given = select arguments tables (map (λ table. name table.name) given.from) given

-- a change of the table of this name
abbrev pub change : Arguments → Tables → Swn → (Heading → List Param → Result Bound Denial) → Effect
change arguments tables name bind =
    unless_denied (first_denial (tables.tests name))
    (once_bound arguments.values (tables.rows name ∷ []) (bind (tables.heading name) arguments.params))

abbrev pub insert : Arguments → Tables → Swn → List (List Term) → Effect
insert arguments tables name rows = change arguments tables name (insert_bound rows)

abbrev pub update : Arguments → Tables → Swn → List Set → List Clause → Effect
update arguments tables name sets clauses = change arguments tables name (update_bound sets clauses)

abbrev pub delete : Arguments → Tables → Swn → List Clause → Effect
delete arguments tables name clauses = change arguments tables name (delete_bound clauses)

-- a statement on rows, with names resolved by this function
abbrev pub effect_over : Arguments → Tables → (NameText → Swn) → Dml → Effect
effect_over arguments tables name (dmls.Select given) = query arguments tables name given
effect_over arguments tables name (dmls.Insert written rows) = insert arguments tables (name written) rows
effect_over arguments tables name (dmls.Update written sets clauses) = update arguments tables (name written) sets clauses
effect_over arguments tables name (dmls.Delete written clauses) = delete arguments tables (name written) clauses

-- ---- statements on the rows of a database

abbrev pub tables_in : Database → Tables
tables_in db = record { tests = table_tests db; heading = heading_in db; rows = rows_in db }

unfoldable pub effect_of_dml : Arguments → Database → Execution → Dml → Effect
effect_of_dml arguments db execution dml = effect_over arguments (tables_in db) (name_of db execution) dml
