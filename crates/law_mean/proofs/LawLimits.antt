-- What follows of the limits of statements.
use Rattle.std.proofs.Common.{◌≤◌, length}
use Rattle.std.specs.Prelude.{nat_le}
use Rattle.std.proofs.lemmas.Bool.{and_parts, leb-true}
use Rattle.rs_ast.specs.Limits.{up_to, KeepsLimits}
use Rattle.rs_ast.specs.declared.stmt.Dml.TheVariants as dmls
use Rattle.rs_ast.specs.declared.stmt.Stmt.{Stmt}
use Rattle.rs_ast.specs.declared.stmt.Stmt.TheVariants as stmts
use Rattle.rs_bind.proofs.Over.{tables_are_few}

-- the statement makes no table of more than 16 columns, and queries at most 6 tables
abbrev pub IsFew : Stmt → Type 0
IsFew (stmts.CreateTable written columns) = length columns ≤ 16
IsFew (stmts.Dml (dmls.Select query)) = length query.from ≤ 6
IsFew stmt = Unit {0}

pub is_few : (stmt : Stmt) → KeepsLimits stmt → IsFew stmt
is_few (stmts.CreateTable written columns) limits = leb-true (length columns) 16 (and_parts (nat_le 1 (length columns)) (up_to 16 columns) limits).1
is_few (stmts.Dml (dmls.Select query)) limits = tables_are_few (dmls.Select query) limits
is_few stmt limits = tt
