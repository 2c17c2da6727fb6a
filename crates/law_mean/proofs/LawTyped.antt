-- What keeps the rows of a table typed.
use Rattle.std.proofs.Common.{◌≡◌, ℕ, ◌≤◌, not, List, [], map, length, All, Option, Some, None, IfSome, Ok, sym, subst, arith}
use Rattle.std.proofs.lemmas.List.{length-map}
use Rattle.std.proofs.lemmas.List.Elements.{All-nil, All-append, All-filter}
use Rattle.std.proofs.lemmas.Option.{IfSome_then}
use Rattle.rs_base.specs.declared.name.Swn.{Swn}
use Rattle.rs_base.specs.declared.txn.Txn.{Txn}
use Rattle.rs_base.specs.declared.value.Kind.{Kind}
use Rattle.rs_base.specs.declared.value.Value.{Value}
use Rattle.rs_ast.specs.declared.bound.BoundCmp.{BoundCmp}
use Rattle.rs_ast.specs.declared.change.Set.{Set}
use Rattle.rs_ast.specs.declared.change.Term.{Term}
use Rattle.rs_ast.specs.declared.column.ColDef.{ColDef}
use Rattle.rs_ast.specs.declared.entry.IndexOf.{IndexOf}
use Rattle.rs_bind_change.specs.Binding.{bound_rows, bound_set}
use Rattle.rs_bind_change.specs.Denials.{insert_tests, sets_tests}
use Rattle.rs_scope.specs.Denials.{first_denial}
use Rattle.rs_scope.specs.Scope.{scope_column, columns_as}
use Rattle.rs_scope.specs.declared.scope.ScopeColumn.{ScopeColumn}
use Rattle.rs_bind.proofs.OverScope.{kinds_in}
use Rattle.rs_eval.specs.Clauses.{holds}
use Rattle.rs_answer.specs.Kinds.{HasKinds}
use Rattle.rs_mean.specs.declared.table.Table.{Table}
use Rattle.rs_mean.specs.Changes.{with_rows}
use Rattle.law_mean.specs.Laws.{IsTyped}
use Rattle.rs_eval.specs.RowChanges.{given_rows, updated_rows, other_rows}
use Rattle.rs_mean.specs.RowStatements.{rows_of}
use Rattle.rs_mean.specs.TableStatements.{columns_of, new_table}
use Rattle.law_mean.proofs.LawKept.{KeepsIn}
use Rattle.law_mean.proofs.LawKinds.{kinds_as, given_typed, row_typed, updated_so}

-- the kinds of the columns
abbrev kinds_of : List ColDef → List Kind
kinds_of columns = map (λ (column : ColDef). column.kind) columns

-- a table without rows is typed
pub empty_typed : (txn : Txn) (name : Swn) (columns : List ColDef) → length columns ≤ 16 → IsTyped (new_table txn name columns)
empty_typed txn name columns few = record { few = few; kinds = All-nil (HasKinds (kinds_of columns)) }

-- a table stays typed whatever its indexes
pub indexed_typed : (found : Option Table) (indexes : List IndexOf) → IfSome found IsTyped → KeepsIn IsTyped found (λ table. record table { indexes = indexes })
indexed_typed found indexes typed = IfSome_then found typed (λ table each. record { few = each.few; kinds = each.kinds })

-- a table stays typed without some of its rows
pub others_typed : (found : Option Table) (clauses : List (List BoundCmp)) → IfSome found IsTyped
    → KeepsIn IsTyped found (λ table. record table { rows = other_rows clauses (rows_of found) })
others_typed None clauses typed = tt
others_typed (Some table) clauses typed = record {
  few = typed.few;
  kinds = All-filter (λ row. not (holds clauses row)) (HasKinds (kinds_of table.columns)) table.rows typed.kinds;
}

module _ (alias : List ℕ) where
  -- the columns that a change of the table may name
  abbrev scope_of : Option Table → List ScopeColumn
  scope_of found = columns_as alias (columns_of found)

  -- a table stays typed with the rows of an INSERT that isn't denied
  pub longer_typed : (found : Option Table) (rows : List (List Term)) → IfSome found IsTyped → first_denial (insert_tests rows (scope_of found) []) ≡ None
      → KeepsIn IsTyped found (with_rows (given_rows [] (bound_rows (scope_of found) [] rows)))
  longer_typed None rows typed passes = tt
  longer_typed (Some table) rows typed passes =
      let scope : List ScopeColumn = columns_as alias table.columns in
      let new : List (List Value) = given_rows [] (bound_rows scope [] rows) in
      let given : All (HasKinds (kinds_of table.columns)) new
      = subst (λ (these : List Kind). All (HasKinds these) new) (kinds_as alias table.columns) (given_typed scope rows passes) in
      record { few = typed.few; kinds = All-append (HasKinds (kinds_of table.columns)) table.rows new typed.kinds given }

  -- a table stays typed with the rows of an UPDATE that isn't denied
  pub updated_typed : (found : Option Table) (sets : List Set) (clauses : List (List BoundCmp)) (new : List (List Value)) → IfSome found IsTyped
      → first_denial (sets_tests (scope_of found) [] [] sets) ≡ None → updated_rows [] (map (bound_set (scope_of found) []) sets) clauses (rows_of found) ≡ Ok new
      → KeepsIn IsTyped found (λ table. record table { rows = new })
  updated_typed None sets clauses new typed passes made = tt
  updated_typed (Some table) sets clauses new typed passes made =
      let scope : List ScopeColumn = columns_as alias table.columns in
      let as_many = length-map table.columns (scope_column alias) in
      let columns_few : length table.columns ≤ 16 = typed.few in
      let few : length scope ≤ 16 = omega arith in
      let same = kinds_as alias table.columns in
      let old : All (HasKinds (kinds_in scope)) table.rows = subst (λ (these : List Kind). All (HasKinds these) table.rows) (sym same) typed.kinds in
      let all : All (HasKinds (kinds_in scope)) new
      = updated_so (HasKinds (kinds_in scope)) (map (bound_set scope []) sets) clauses (λ row item. row_typed scope few sets clauses row item passes) table.rows new old made in
      record { few = typed.few; kinds = subst (λ (these : List Kind). All (HasKinds these) new) same all }
