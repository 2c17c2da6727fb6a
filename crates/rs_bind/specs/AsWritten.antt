-- A bound statement against the written one, part by part: each name is bound to an index at which it is,
-- and the rest is as it is written.
use Rattle.std.specs.Prelude.{◌≡◌, ℕ, ◌+◌, true, List, [], ◌∷◌, map, length, Option, Some, None, slice_get, ⊤}
use Rattle.std.specs.List.{AllZip, range_with_len}
use Rattle.rs_base.specs.declared.name.Swn.{Swn}
use Rattle.rs_ast.specs.declared.bound.BoundCmp.{BoundCmp}
use Rattle.rs_ast.specs.declared.bound.BoundSet.{BoundSet}
use Rattle.rs_ast.specs.declared.bound.BoundSide.{BoundSide}
use Rattle.rs_ast.specs.declared.bound.BoundSide.TheVariants as sides
use Rattle.rs_ast.specs.declared.bound.BoundTerm.{BoundTerm}
use Rattle.rs_ast.specs.declared.bound.BoundTerm.TheVariants as bound_terms
use Rattle.rs_ast.specs.declared.change.Arith.{Arith}
use Rattle.rs_ast.specs.declared.change.Set.{Set}
use Rattle.rs_ast.specs.declared.change.Term.{Term}
use Rattle.rs_ast.specs.declared.change.Term.TheVariants as terms
use Rattle.rs_ast.specs.declared.clause.Clause.{Clause}
use Rattle.rs_ast.specs.declared.clause.Cmp.{Cmp}
use Rattle.rs_ast.specs.declared.clause.Operand.{Operand}
use Rattle.rs_ast.specs.declared.clause.Operand.TheVariants as operands
use Rattle.rs_ast.specs.declared.column.ColRef.{ColRef}
use Rattle.rs_ast.specs.declared.select.Item.{Item}
use Rattle.rs_ast.specs.declared.select.Item.TheVariants as items
use Rattle.rs_ast.specs.declared.select.Key.{Key}
use Rattle.rs_ast.specs.declared.select.KeyBy.{KeyBy}
use Rattle.rs_ast.specs.declared.select.KeyBy.TheVariants as keys
use Rattle.rs_ast.specs.declared.select.Select.{Select}
use Rattle.rs_ast.specs.declared.shape.Shape.{Shape}
use Rattle.rs_ast.specs.declared.shape.ShapeItem.{ShapeItem}
use Rattle.rs_ast.specs.declared.shape.ShapeItem.TheVariants as shape_items
use Rattle.rs_ast.specs.declared.shape.ShapeKey.{ShapeKey}
use Rattle.rs_ast.specs.declared.stmt.Dml.{Dml}
use Rattle.rs_ast.specs.declared.stmt.Dml.TheVariants as dmls
use Rattle.rs_plan.specs.declared.bound.Bound.{Bound}
use Rattle.rs_plan.specs.declared.bound.Bound.TheVariants as bounds
use Rattle.rs_scope.specs.declared.heading.Heading.{Heading}
use Rattle.rs_scope.specs.declared.scope.ScopeColumn.{ScopeColumn}
use Rattle.rs_scope.specs.Scope.{aliases_of, query_scope, table_scope, is_named, named_count, unqualified}
use Rattle.rs_bind_query.specs.Denials.{is_grouped}

-- ---- names

-- the columns that a statement may name; a change names those of its table
abbrev pub scope_of : Dml → List Heading → List ScopeColumn
scope_of (dmls.Select select) headings = query_scope select.from headings
scope_of (dmls.Insert name rows) [] = []
scope_of (dmls.Insert name rows) (heading ∷ headings) = table_scope heading
scope_of (dmls.Update name sets clauses) [] = []
scope_of (dmls.Update name sets clauses) (heading ∷ headings) = table_scope heading
scope_of (dmls.Delete name clauses) [] = []
scope_of (dmls.Delete name clauses) (heading ∷ headings) = table_scope heading

-- At this column index is a column of the written name.
pub record IsNamedAt (scope : List ScopeColumn) (written : ColRef) (column_index : ℕ) : Type 0 where
  pub column : ScopeColumn
  pub there : slice_get scope column_index ≡ Some column
  pub named : is_named written column ≡ true

-- At this column index is the column of the written name, and no other column has it.
pub record IsOnlyAt (scope : List ScopeColumn) (written : ColRef) (column_index : ℕ) : Type 0 where
  pub named : IsNamedAt scope written column_index
  pub only : named_count scope written ≡ 1

-- the parameter of this name is declared at this position
abbrev pub IsParamAt : List (List ℕ) → List ℕ → ℕ → Type 0
IsParamAt names name position = slice_get names position ≡ Some name

-- ---- predicates

-- a column is the column of its name, a constant the same constant, and a parameter the one of its name
abbrev pub IsSideAs : List ScopeColumn → List (List ℕ) → Operand → BoundSide → Type 0
IsSideAs scope names (operands.Col written) (sides.Place column_index) = IsOnlyAt scope written column_index
IsSideAs scope names (operands.Lit value) (sides.Lit constant) = constant ≡ value
IsSideAs scope names (operands.Param name) (sides.Param position) = IsParamAt names name position
IsSideAs scope names operand side = ⊥

pub record IsCmpAs (scope : List ScopeColumn) (names : List (List ℕ)) (cmp : Cmp) (bound : BoundCmp) : Type 0 where
  pub left : IsOnlyAt scope cmp.left bound.left
  pub op : bound.op ≡ cmp.op
  pub right : IsSideAs scope names cmp.right bound.right

-- clause by clause, and comparison by comparison
abbrev pub AreClausesAs : List ScopeColumn → List (List ℕ) → List Clause → List (List BoundCmp) → Type 0
AreClausesAs scope names clauses bound = AllZip (λ clause cmps. AllZip (IsCmpAs scope names) clause.any cmps) clauses bound

-- ---- changes

abbrev pub IsTermAs : List ScopeColumn → List (List ℕ) → Term → BoundTerm → Type 0
IsTermAs scope names (terms.Col column) (bound_terms.Place column_index) =
    IsNamedAt scope (unqualified column) column_index
IsTermAs scope names (terms.Lit value) (bound_terms.Lit constant) = constant ≡ value
IsTermAs scope names (terms.Param name) (bound_terms.Param position) = IsParamAt names name position
IsTermAs scope names term bound = ⊥

-- row by row, and term by term
abbrev pub AreRowsAs : List ScopeColumn → List (List ℕ) → List (List Term) → List (List BoundTerm) → Type 0
AreRowsAs scope names rows bound = AllZip (λ row terms. AllZip (IsTermAs scope names) row terms) rows bound

-- the second term of an expression, with its operator, if there is one
abbrev pub IsMoreAs : List ScopeColumn → List (List ℕ) → Option (Arith × Term) → Option (Arith × BoundTerm) → Type 0
IsMoreAs scope names None None = ⊤
IsMoreAs scope names (Some more) (Some bound) = (bound.0 ≡ more.0) × IsTermAs scope names more.1 bound.1
IsMoreAs scope names more bound = ⊥

pub record IsSetAs (scope : List ScopeColumn) (names : List (List ℕ)) (set : Set) (bound : BoundSet) : Type 0 where
  pub column : IsNamedAt scope (unqualified set.column) bound.column
  pub first : IsTermAs scope names set.expr.first bound.first
  pub more : IsMoreAs scope names set.expr.more bound.more

-- ---- queries

abbrev pub IsItemAs : List ScopeColumn → Item → ShapeItem → Type 0
IsItemAs scope (items.Col written) (shape_items.Col column_index) = IsOnlyAt scope written column_index
IsItemAs scope items.Count shape_items.Count = ⊤
IsItemAs scope (items.Sum written) (shape_items.Sum column_index) = IsOnlyAt scope written column_index
IsItemAs scope (items.Min written) (shape_items.Min column_index) = IsOnlyAt scope written column_index
IsItemAs scope (items.Max written) (shape_items.Max column_index) = IsOnlyAt scope written column_index
IsItemAs scope item bound = ⊥

-- item by item; `*` is each column of the tables, in their order
abbrev pub AreItemsAs : List ScopeColumn → Option (List Item) → List ShapeItem → Type 0
AreItemsAs scope None bound =
    bound ≡ map (λ column_index. shape_items.Col column_index) (range_with_len 0 (length scope))
AreItemsAs scope (Some shown) bound = AllZip (IsItemAs scope) shown bound

-- The item of this ordinal, from 0, is the column of the written name.
pub record IsShownAt (scope : List ScopeColumn) (shown : List ShapeItem) (written : ColRef) (ordinal : ℕ) : Type 0 where
  pub column_index : ℕ
  pub there : slice_get shown ordinal ≡ Some (shape_items.Col column_index)
  pub named : IsOnlyAt scope written column_index

-- a column is that of the item; an ordinal that is written counts from 1
abbrev pub IsKeyBy : List ScopeColumn → List ShapeItem → KeyBy → ℕ → Type 0
IsKeyBy scope shown (keys.Col written) ordinal = IsShownAt scope shown written ordinal
IsKeyBy scope shown (keys.Place n) ordinal = n ≡ ordinal + 1

pub record IsKeyAs (scope : List ScopeColumn) (shown : List ShapeItem) (key : Key) (bound : ShapeKey) : Type 0 where
  pub by : IsKeyBy scope shown key.by bound.item
  pub desc : bound.desc ≡ key.desc

pub record IsShapeAs (scope : List ScopeColumn) (select : Select) (shape : Shape) : Type 0 where
  pub distinct : shape.distinct ≡ select.distinct
  pub items : AreItemsAs scope select.items shape.items
  pub group : AllZip (IsOnlyAt scope) select.group shape.group
  pub keys : AllZip (IsKeyAs scope shape.items) select.order shape.keys
  pub grouped : shape.grouped ≡ is_grouped select

-- ---- statements

pub record IsSelectAs (select : Select) (headings : List Heading) (names : List (List ℕ))
    (tables : List Swn) (aliases : List (List ℕ)) (clauses : List (List BoundCmp)) (shape : Shape) : Type 0 where
  pub tables_are : tables ≡ map (λ heading. heading.name) headings
  pub aliases_are : aliases ≡ aliases_of select.from headings
  pub clauses_are : AreClausesAs (query_scope select.from headings) names select.clauses clauses
  pub shape_is : IsShapeAs (query_scope select.from headings) select shape

pub record IsInsertAs (rows : List (List Term)) (heading : Heading) (names : List (List ℕ))
    (table : Swn) (bound : List (List BoundTerm)) : Type 0 where
  pub table_is : table ≡ heading.name
  pub rows_are : AreRowsAs (table_scope heading) names rows bound

pub record IsUpdateAs (sets : List Set) (clauses : List Clause) (heading : Heading) (names : List (List ℕ))
    (table : Swn) (bound_sets : List BoundSet) (bound_clauses : List (List BoundCmp)) : Type 0 where
  pub table_is : table ≡ heading.name
  pub sets_are : AllZip (IsSetAs (table_scope heading) names) sets bound_sets
  pub clauses_are : AreClausesAs (table_scope heading) names clauses bound_clauses

pub record IsDeleteAs (clauses : List Clause) (heading : Heading) (names : List (List ℕ))
    (table : Swn) (bound_clauses : List (List BoundCmp)) : Type 0 where
  pub table_is : table ≡ heading.name
  pub clauses_are : AreClausesAs (table_scope heading) names clauses bound_clauses

-- the statement over these tables, with parameters of these names, is bound to this
abbrev pub IsBoundAs : Dml → List Heading → List (List ℕ) → Bound → Type 0
IsBoundAs (dmls.Select select) headings names (bounds.Select tables aliases widths clauses shape) =
    IsSelectAs select headings names tables aliases clauses shape
IsBoundAs (dmls.Insert name rows) (heading ∷ []) names (bounds.Insert table bound) =
    IsInsertAs rows heading names table bound
IsBoundAs (dmls.Update name sets clauses) (heading ∷ []) names (bounds.Update table bound_sets bound_clauses) =
    IsUpdateAs sets clauses heading names table bound_sets bound_clauses
IsBoundAs (dmls.Delete name clauses) (heading ∷ []) names (bounds.Delete table bound_clauses) =
    IsDeleteAs clauses heading names table bound_clauses
IsBoundAs stmt headings names bound = ⊥
