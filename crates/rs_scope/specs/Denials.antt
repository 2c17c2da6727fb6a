-- The tests of a statement in their order, and those of columns, parameters and predicates: the first that fails denies the
-- statement.
use Rattle.std.specs.Prelude.{ℕ, Bool, not, ◌==◌, nat_lt, List, [], ◌∷◌, ◌++◌, flat_map, Option, Some, None, if◌then◌else◌}
use Rattle.rs_base.specs.declared.reply.Denial.{Denial}
use Rattle.rs_base.specs.declared.reply.Denial.TheVariants as denials
use Rattle.rs_base.specs.declared.value.Kind.{Kind}
use Rattle.rs_base.specs.Value.{kind_of}
use Rattle.rs_ast.specs.declared.clause.Clause.{Clause}
use Rattle.rs_ast.specs.declared.clause.Cmp.{Cmp}
use Rattle.rs_ast.specs.declared.clause.Operand.{Operand}
use Rattle.rs_ast.specs.declared.clause.Operand.TheVariants as operands
use Rattle.rs_ast.specs.declared.column.ColRef.{ColRef}
use Rattle.rs_ast.specs.Kinds.{kinds_fit}
use Rattle.rs_scope.specs.declared.scope.Param.{Param}
use Rattle.rs_scope.specs.declared.scope.ScopeColumn.{ScopeColumn}
use Rattle.rs_scope.specs.Scope.{named_count, column_kind, is_declared, param_kind}

-- A test of a statement: whether it fails, and the cause of the denial if it does.
pub record Test : Type 0 where
  pub fails : Bool
  pub cause : Denial

abbrev pub test : Bool → Denial → Test
test fails cause = record { fails = fails; cause = cause }

-- the cause of the first test that fails, if one does
abbrev pub first_denial : List Test → Option Denial
first_denial [] = None
first_denial (first ∷ tests) = if first.fails then Some first.cause else first_denial tests

-- ---- columns and parameters

-- the column isn't there; two columns have the name
abbrev pub column_tests : List ScopeColumn → ColRef → List Test
column_tests scope written =
    test (named_count scope written == 0) denials.NoColumn ∷ test (nat_lt 1 (named_count scope written)) denials.TwoColumns ∷ []

-- the parameter isn't declared
abbrev pub param_test : List Param → List ℕ → Test
param_test params name = test (not (is_declared params name)) denials.WrongParams

---- predicates

abbrev pub operand_tests : List ScopeColumn → List Param → Operand → List Test
operand_tests scope params (operands.Col written) = column_tests scope written
operand_tests scope params (operands.Lit value) = []
operand_tests scope params (operands.Param name) = param_test params name ∷ []

abbrev pub operand_kind : List ScopeColumn → List Param → Operand → Option Kind
operand_kind scope params (operands.Col written) = column_kind scope written
operand_kind scope params (operands.Lit value) = Some (kind_of value)
operand_kind scope params (operands.Param name) = param_kind params name

-- its left column, its right operand, and then whether the two have one kind
abbrev pub cmp_tests : List ScopeColumn → List Param → Cmp → List Test
cmp_tests scope params cmp =
    column_tests scope cmp.left ++ operand_tests scope params cmp.right
    ++ test (not (kinds_fit (column_kind scope cmp.left) (operand_kind scope params cmp.right))) denials.WrongType ∷ []

abbrev pub clauses_tests : List ScopeColumn → List Param → List Clause → List Test
clauses_tests scope params clauses = flat_map (λ clause. flat_map (cmp_tests scope params) clause.any) clauses
