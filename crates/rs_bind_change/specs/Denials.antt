-- The tests of the names and kinds of INSERT, UPDATE and DELETE, in their order: the first that fails denies the statement.
-- That the table exists is tested before, and its rows after.
use Rattle.std.specs.Prelude.{Bool, true, false, ◌&&◌, not, ◌==◌, List, [], ◌∷◌, ◌++◌, flat_map, bytes_eq, Option, Some, None}
use Rattle.std.specs.List.{list_any}
use Rattle.std.specs.Cmp.Lexicographic.{pointwise}
use Rattle.rs_base.specs.declared.reply.Denial.TheVariants as denials
use Rattle.rs_base.specs.declared.value.Kind.{Kind}
use Rattle.rs_base.specs.declared.value.Kind.TheVariants as kinds
use Rattle.rs_base.specs.Value.{kind_of}
use Rattle.rs_ast.specs.declared.change.Arith.{Arith}
use Rattle.rs_ast.specs.declared.change.Set.{Set}
use Rattle.rs_ast.specs.declared.change.Term.{Term}
use Rattle.rs_ast.specs.declared.change.Term.TheVariants as terms
use Rattle.rs_ast.specs.declared.clause.Clause.{Clause}
use Rattle.rs_ast.specs.Kinds.{kinds_fit}
use Rattle.rs_scope.specs.declared.scope.Param.{Param}
use Rattle.rs_scope.specs.declared.scope.ScopeColumn.{ScopeColumn}
use Rattle.rs_scope.specs.Scope.{named_count, unqualified, column_kind, param_kind}
use Rattle.rs_scope.specs.Denials.{Test, test, param_test, clauses_tests}

-- ---- INSERT

-- a term of an inserted row has a kind; it is no column
abbrev pub given_kind : List Param → Term → Option Kind
given_kind params (terms.Col column) = None
given_kind params (terms.Lit value) = Some (kind_of value)
given_kind params (terms.Param name) = param_kind params name

abbrev pub is_given : Term → Bool
is_given (terms.Col column) = false
is_given (terms.Lit value) = true
is_given (terms.Param name) = true

abbrev pub term_fits : List Param → Term → ScopeColumn → Bool
term_fits params term column = is_given term && kinds_fit (Some column.kind) (given_kind params term)

-- a term for each column, of its kind
abbrev pub row_fits : List ScopeColumn → List Param → List Term → Bool
row_fits scope params row = pointwise (term_fits params) row scope

abbrev pub given_tests : List Param → Term → List Test
given_tests params (terms.Col column) = []
given_tests params (terms.Lit value) = []
given_tests params (terms.Param name) = param_test params name ∷ []

-- the number of its terms and their kinds, and then its parameters
abbrev pub row_tests : List ScopeColumn → List Param → List Term → List Test
row_tests scope params row = test (not (row_fits scope params row)) denials.WrongType ∷ flat_map (given_tests params) row

abbrev pub insert_tests : List (List Term) → List ScopeColumn → List Param → List Test
insert_tests rows scope params = flat_map (row_tests scope params) rows

-- ---- UPDATE

-- a term of an expression names a column of the table, unqualified
abbrev pub term_tests : List ScopeColumn → List Param → Term → List Test
term_tests scope params (terms.Col column) = test (named_count scope (unqualified column) == 0) denials.NoColumn ∷ []
term_tests scope params (terms.Lit value) = []
term_tests scope params (terms.Param name) = param_test params name ∷ []

abbrev pub term_kind : List ScopeColumn → List Param → Term → Option Kind
term_kind scope params (terms.Col column) = column_kind scope (unqualified column)
term_kind scope params (terms.Lit value) = Some (kind_of value)
term_kind scope params (terms.Param name) = param_kind params name

abbrev pub more_tests : List ScopeColumn → List Param → Option (Arith × Term) → List Test
more_tests scope params None = []
more_tests scope params (Some more) = term_tests scope params more.1

-- a term has the kind of the column; two that are combined are integers, and so is the column
abbrev pub expr_fits : List ScopeColumn → List Param → Option Kind → Term → Option (Arith × Term) → Bool
expr_fits scope params kind first None = kinds_fit kind (term_kind scope params first)
expr_fits scope params kind first (Some more) =
    kinds_fit kind (Some kinds.Int) && kinds_fit (Some kinds.Int) (term_kind scope params first)
    && kinds_fit (Some kinds.Int) (term_kind scope params more.1)

-- its column isn't there, or is assigned by one of those before
abbrev pub set_column_tests : List ScopeColumn → List Set → Set → List Test
set_column_tests scope before set =
    test (named_count scope (unqualified set.column) == 0) denials.NoColumn
    ∷ test (list_any (λ other. bytes_eq other.column set.column) before) denials.TwoColumns ∷ []

-- its expression is of its column's kind
abbrev pub set_fits : List ScopeColumn → List Param → Set → Bool
set_fits scope params set = expr_fits scope params (column_kind scope (unqualified set.column)) set.expr.first set.expr.more

abbrev pub set_kind_test : List ScopeColumn → List Param → Set → Test
set_kind_test scope params set = test (not (set_fits scope params set)) denials.WrongType

-- its column; its terms; and then their kinds
abbrev pub set_tests : List ScopeColumn → List Param → List Set → Set → List Test
set_tests scope params before set =
    set_column_tests scope before set
    ++ term_tests scope params set.expr.first ++ more_tests scope params set.expr.more ++ set_kind_test scope params set ∷ []

-- each assignment, after those before it
abbrev pub sets_tests : List ScopeColumn → List Param → List Set → List Set → List Test
sets_tests scope params before [] = []
sets_tests scope params before (set ∷ sets) = set_tests scope params before set
    ++ sets_tests scope params (before ++ set ∷ []) sets

-- ---- statements

abbrev pub update_tests : List Set → List Clause → List ScopeColumn → List Param → List Test
update_tests sets clauses scope params = sets_tests scope params [] sets ++ clauses_tests scope params clauses

abbrev pub delete_tests : List Clause → List ScopeColumn → List Param → List Test
delete_tests clauses scope params = clauses_tests scope params clauses
