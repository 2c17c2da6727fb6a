-- The limits of statements: how many parts each has that a text spells. Identifiers, text values, site numbers and
-- integers have the limits of their types.
use Rattle.std.specs.Prelude.{ℕ, Bool, true, false, ◌&&◌, nat_le, List, length, Option, Some, None, IsTrue}
use Rattle.std.specs.List.{list_all}
use Rattle.rs_ast.specs.declared.change.Term.{Term}
use Rattle.rs_ast.specs.declared.change.Term.TheVariants as terms
use Rattle.rs_ast.specs.declared.clause.Clause.{Clause}
use Rattle.rs_ast.specs.declared.select.Item.{Item}
use Rattle.rs_ast.specs.declared.select.Select.{Select}
use Rattle.rs_ast.specs.declared.stmt.Dml.{Dml}
use Rattle.rs_ast.specs.declared.stmt.Dml.TheVariants as dmls
use Rattle.rs_ast.specs.declared.stmt.Stmt.{Stmt}
use Rattle.rs_ast.specs.declared.stmt.Stmt.TheVariants as stmts

-- at most this number of items
abbrev pub up_to : {A : Type 0} → ℕ → List A → Bool
up_to most items = nat_le (length items) most

-- one item or more, at most this number
abbrev pub one_to : {A : Type 0} → ℕ → List A → Bool
one_to most items = nat_le 1 (length items) && up_to most items

-- each clause has a comparison
abbrev pub clauses_keep_limits : List Clause → Bool
clauses_keep_limits clauses = list_all (λ clause. nat_le 1 (length clause.any)) clauses

-- `*`, or 1 to 16 items
abbrev pub items_keep_limits : Option (List Item) → Bool
items_keep_limits None = true
items_keep_limits (Some items) = one_to 16 items

-- 1 to 6 tables, and at most 16 columns to group by and 16 sort keys
abbrev pub select_keeps_limits : Select → Bool
select_keeps_limits select =
    items_keep_limits select.items && one_to 6 select.from && clauses_keep_limits select.clauses
    && up_to 16 select.group && up_to 16 select.order

-- a constant or a parameter, and no column
abbrev pub is_given : Term → Bool
is_given (terms.Col column) = false
is_given (terms.Lit value) = true
is_given (terms.Param param) = true

-- a row of INSERT has 1 to 16 values
abbrev pub row_keeps_limits : List Term → Bool
row_keeps_limits row = one_to 16 row && list_all is_given row

-- an INSERT has a row, and an UPDATE 1 to 16 assignments
abbrev pub dml_keeps_limits : Dml → Bool
dml_keeps_limits (dmls.Select select) = select_keeps_limits select
dml_keeps_limits (dmls.Insert name rows) = nat_le 1 (length rows) && list_all row_keeps_limits rows
dml_keeps_limits (dmls.Update name sets clauses) = one_to 16 sets && clauses_keep_limits clauses
dml_keeps_limits (dmls.Delete name clauses) = clauses_keep_limits clauses

-- a table has 1 to 16 columns; a program at most 16 parameters and 1 to 8 statements, and an EXECUTE at most 16 values
abbrev pub stmt_keeps_limits : Stmt → Bool
stmt_keeps_limits (stmts.CreateTable name columns) = one_to 16 columns
stmt_keeps_limits (stmts.DropTable name) = true
stmt_keeps_limits (stmts.CreateIndex index name column) = true
stmt_keeps_limits (stmts.DropIndex index name) = true
stmt_keeps_limits (stmts.CreateSynonym synonym name) = true
stmt_keeps_limits (stmts.DropSynonym synonym) = true
stmt_keeps_limits (stmts.Migrate name to) = true
stmt_keeps_limits (stmts.Compile program params body) = up_to 16 params && one_to 8 body && list_all dml_keeps_limits body
stmt_keeps_limits (stmts.DropProgram program) = true
stmt_keeps_limits (stmts.Execute program given) = up_to 16 given
stmt_keeps_limits (stmts.Explain select) = select_keeps_limits select
stmt_keeps_limits stmts.ShowSections = true
stmt_keeps_limits stmts.ShowCache = true
stmt_keeps_limits (stmts.Dml dml) = dml_keeps_limits dml

-- The statement keeps the limits, and so does a statement on rows.
abbrev pub KeepsLimits : Stmt → Type 0
KeepsLimits stmt = IsTrue (stmt_keeps_limits stmt)

abbrev pub DmlKeepsLimits : Dml → Type 0
DmlKeepsLimits dml = IsTrue (dml_keeps_limits dml)
