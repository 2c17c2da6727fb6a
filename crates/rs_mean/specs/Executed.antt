-- Which statements are executed so far: all but those on programs, plans and moves, and SHOW.
use Rattle.std.specs.Prelude.{Bool, true, false}
use Rattle.rs_ast.specs.declared.stmt.Stmt.{Stmt}
use Rattle.rs_ast.specs.declared.stmt.Stmt.TheVariants as stmts

-- the statement is executed
abbrev pub is_executed : Stmt → Bool
is_executed (stmts.CreateTable name columns) = true
is_executed (stmts.DropTable name) = true
is_executed (stmts.CreateIndex index name column) = true
is_executed (stmts.DropIndex index name) = true
is_executed (stmts.CreateSynonym synonym name) = true
is_executed (stmts.DropSynonym synonym) = true
is_executed (stmts.Migrate name to) = false
is_executed (stmts.Compile program params body) = false
is_executed (stmts.DropProgram program) = false
is_executed (stmts.Execute program values) = false
is_executed (stmts.Explain select) = false
is_executed stmts.ShowSections = false
is_executed stmts.ShowCache = false
is_executed (stmts.Dml dml) = true
