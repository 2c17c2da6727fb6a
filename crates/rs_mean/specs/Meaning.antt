-- The meaning of an execution: the database after it, and its outcome.
use Rattle.std.specs.Prelude.{List, [], ◌∷◌, Result, Ok, Err}
use Rattle.rs_base.specs.declared.reply.Answer.{Answer}
use Rattle.rs_base.specs.declared.reply.Answer.TheVariants as answers
use Rattle.rs_base.specs.declared.reply.Denial.{Denial}
use Rattle.rs_ast.specs.declared.stmt.Stmt.{Stmt}
use Rattle.rs_ast.specs.declared.stmt.Stmt.TheVariants as stmts
use Rattle.rs_mean.specs.declared.change.Change.TheVariants as changes
use Rattle.rs_mean.specs.declared.change.Effect.{Effect}
use Rattle.rs_mean.specs.declared.execution.Execution.{Execution}
use Rattle.rs_mean.specs.Changes.{changed}
use Rattle.rs_mean.specs.Database.{Database}
use Rattle.rs_mean.specs.Effects.{done}
use Rattle.rs_mean.specs.Names.{name_of}
use Rattle.rs_mean.specs.Outcome.{Outcome, Done, Denied}
use Rattle.rs_mean.specs.RowStatements.{no_arguments, effect_of_dml}
use Rattle.rs_mean.specs.TableStatements.{create_table, drop_table, create_index, drop_index, create_synonym, drop_synonym}

-- ---- statements in order

-- a statement, by its effect on a database
abbrev pub Statement : Type 0
Statement = Database → Effect

-- the first answer before the others, or the first denial
abbrev pub answered_first : Result Answer Denial → Result (Database × List Answer) Denial → Result (Database × List Answer) Denial
answered_first (Ok answer) (Ok (db, others)) = Ok (db, answer ∷ others)
answered_first (Ok answer) (Err cause) = Err cause
answered_first (Err cause) others = Err cause

-- The database after statements that are executed in order, and their answers; or the cause of the first denial.
abbrev pub in_order : List Statement → Database → Result (Database × List Answer) Denial
in_order [] db = Ok (db, [])
in_order (statement ∷ others) db = answered_first (statement db).answer (in_order others (changed (statement db).change db))

-- After a denial the database is as it was: what earlier statements changed is undone.
abbrev pub settled : Database → Result (Database × List Answer) Denial → Database × Outcome
settled db (Ok (new, given)) = (new, Done given)
settled db (Err cause) = (db, Denied cause)

-- ---- executions

-- The effect of a statement of its own. One that isn't executed so far changes nothing, and no entry of a history has one.
abbrev pub effect_of_stmt : Database → Execution → Stmt → Effect
effect_of_stmt db execution (stmts.CreateTable written columns) =
    create_table db execution.txn (name_of db execution written) columns
effect_of_stmt db execution (stmts.DropTable written) = drop_table db (name_of db execution written)
effect_of_stmt db execution (stmts.CreateIndex index written column) =
    create_index db execution.txn (name_of db execution written) index column
effect_of_stmt db execution (stmts.DropIndex index written) = drop_index db (name_of db execution written) index
effect_of_stmt db execution (stmts.CreateSynonym synonym written) =
    create_synonym db execution synonym (name_of db execution written)
effect_of_stmt db execution (stmts.DropSynonym synonym) = drop_synonym db execution synonym
effect_of_stmt db execution (stmts.Migrate written to) = done changes.Nothing answers.Ok
effect_of_stmt db execution (stmts.Compile program params body) = done changes.Nothing answers.Ok
effect_of_stmt db execution (stmts.DropProgram program) = done changes.Nothing answers.Ok
effect_of_stmt db execution (stmts.Execute program values) = done changes.Nothing answers.Ok
effect_of_stmt db execution (stmts.Explain query) = done changes.Nothing answers.Ok
effect_of_stmt db execution stmts.ShowSections = done changes.Nothing answers.Ok
effect_of_stmt db execution stmts.ShowCache = done changes.Nothing answers.Ok
effect_of_stmt db execution (stmts.Dml dml) = effect_of_dml no_arguments db execution dml

-- what an execution of one statement changes, and its answer
unfoldable pub effect_of : Database → Execution → Effect
effect_of db execution = effect_of_stmt db execution execution.stmt

-- the statements that an execution executes in order
abbrev pub statements_of : Execution → List Statement
statements_of execution = (λ db. effect_of_stmt db execution execution.stmt) ∷ []

unfoldable pub meaning : Database → Execution → Database × Outcome
meaning db execution = settled db (in_order (statements_of execution) db)
