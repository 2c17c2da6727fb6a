-- The statements on rows that a text has, and these with other names of tables.
use Rattle.rs_ast.specs.declared.select.Select.{Select}
use Rattle.rs_ast.specs.declared.select.TableRef.{TableRef}
use Rattle.rs_ast.specs.declared.stmt.Dml.{Dml}
use Rattle.rs_ast.specs.declared.stmt.Dml.TheVariants as dmls
use Rattle.rs_ast.specs.declared.stmt.Stmt.{Stmt}
use Rattle.rs_ast.specs.declared.stmt.Stmt.TheVariants as stmts
use Rattle.rs_base.specs.declared.name.NameText.{NameText}
use Rattle.std.specs.Prelude.{List, [], ◌∷◌, map}

-- a statement on rows is one, EXPLAIN has one, and COMPILE those of its body
abbrev pub statements : Stmt → List Dml
statements (stmts.CreateTable name columns) = []
statements (stmts.DropTable name) = []
statements (stmts.CreateIndex index name column) = []
statements (stmts.DropIndex index name) = []
statements (stmts.CreateSynonym synonym name) = []
statements (stmts.DropSynonym synonym) = []
statements (stmts.Migrate name to) = []
statements (stmts.Compile program params body) = body
statements (stmts.DropProgram program) = []
statements (stmts.Execute program given) = []
statements (stmts.Explain select) = dmls.Select select ∷ []
statements stmts.ShowSections = []
statements stmts.ShowCache = []
statements (stmts.Dml dml) = dml ∷ []

module _ (rename : NameText → NameText) where
  abbrev pub renamed_ref : TableRef → TableRef
  renamed_ref table = record { name = rename table.name; alias = table.alias }

  abbrev pub renamed_query : Select → Select
  renamed_query select = record select { from = map renamed_ref select.from }

  -- the statement with the name of each table replaced
  abbrev pub renamed : Dml → Dml
  renamed (dmls.Select select) = dmls.Select (renamed_query select)
  renamed (dmls.Insert name rows) = dmls.Insert (rename name) rows
  renamed (dmls.Update name sets clauses) = dmls.Update (rename name) sets clauses
  renamed (dmls.Delete name clauses) = dmls.Delete (rename name) clauses
