-- A name is bound to the index of a column of that name.
use Rattle.std.proofs.Common.{◌≡◌, ℕ, suc, ◌+◌, ◌<◌, ◌≤◌, Bool, true, false, cond, not, List, [], ◌∷◌, map, length, Some, refl, ap, ◌∙◌, subst, arith}
use Rattle.std.specs.Prelude.{◌==◌, All}
use Rattle.std.specs.List.{position_or_len, slice_get}
use Rattle.std.proofs.lemmas.List.{length-map}
use Rattle.std.proofs.lemmas.List.Elements.{All-head}
use Rattle.rs_ast.specs.Limits.{DmlKeepsLimits}
use Rattle.rs_ast.specs.declared.column.ColRef.{ColRef}
use Rattle.rs_ast.specs.declared.entry.Entry.{Entry}
use Rattle.rs_ast.specs.declared.stmt.Dml.{Dml}
use Rattle.rs_ast.specs.declared.stmt.Dml.TheVariants as dmls
use Rattle.rs_plan.specs.Over.{IsNarrow}
use Rattle.rs_scope.specs.declared.scope.ScopeColumn.{ScopeColumn}
use Rattle.rs_scope.specs.Scope.{is_named, named_count, column_index_of, query_scope, scope_column}
use Rattle.rs_bind.specs.Entries.{defined, headings_of, table_count}
use Rattle.rs_bind.specs.AsWritten.{scope_of, IsNamedAt}
use Rattle.rs_bind.specs.Laws.{PlacesAreNamed}
use Rattle.rs_bind.proofs.Over.{tables_are_few}
use Rattle.rs_bind.proofs.OverScope.{query_kinds, kinds_are_few, some_found, column_index_is}

module _ {X : Type 0} (p : X → Bool) where
  abbrev pub Found : List X → ℕ → Type 0
  Found xs i = (x : X) × (slice_get xs i ≡ Some x) × (p x ≡ true)

  pub found_at : (xs : List X) → position_or_len p xs < length xs → Found xs (position_or_len p xs)
  found_at [] within = absurd (omega arith)
  found_at (x ∷ xs) within = go (found_at xs) (p x) refl within
    where
      go : (position_or_len p xs < length xs → Found xs (position_or_len p xs)) → (b : Bool) → p x ≡ b → cond (not b) (1 + position_or_len p xs) 0 < suc (length xs)
          → Found (x ∷ xs) (cond (not b) (1 + position_or_len p xs) 0)
      go rest true e within = (x, refl, e)
      go rest false e within =
          let later = rest (omega arith) in
          let next : suc (position_or_len p xs) ≡ 1 + position_or_len p xs = omega arith in
          (later.0, subst (λ (i : ℕ). slice_get (x ∷ xs) i ≡ Some later.0) next later.1, later.2)

table_is_narrow : (entry : Entry) (alias : List ℕ) → length entry.columns ≤ 16 → length (map (scope_column alias) (map defined entry.columns)) ≤ 96
table_is_narrow entry alias narrow =
    let columns = length-map entry.columns defined in
    let mapped = length-map (map defined entry.columns) (scope_column alias) in
    omega arith

-- at most 96 columns
pub columns_are_few : (stmt : Dml) (entries : List Entry) → DmlKeepsLimits stmt → All IsNarrow entries → length entries ≡ table_count stmt → length (scope_of stmt (headings_of entries)) ≤ 96
columns_are_few (dmls.Select select) entries limits narrow long =
    let kinds = ap length (query_kinds select.from entries long) in
    let mapped = length-map (query_scope select.from (headings_of entries)) (λ (column : ScopeColumn). column.kind) in
    let each = kinds_are_few entries narrow in
    let few = tables_are_few (dmls.Select select) limits in
    omega arith
columns_are_few (dmls.Insert name rows) [] limits narrow long = omega arith
columns_are_few (dmls.Insert name rows) (entry ∷ entries) limits narrow long = table_is_narrow entry entry.name.object (All-head IsNarrow entry entries narrow)
columns_are_few (dmls.Update name sets clauses) [] limits narrow long = omega arith
columns_are_few (dmls.Update name sets clauses) (entry ∷ entries) limits narrow long = table_is_narrow entry entry.name.object (All-head IsNarrow entry entries narrow)
columns_are_few (dmls.Delete name clauses) [] limits narrow long = omega arith
columns_are_few (dmls.Delete name clauses) (entry ∷ entries) limits narrow long = table_is_narrow entry entry.name.object (All-head IsNarrow entry entries narrow)

-- a name that some of a few columns has is bound to the index of such a column
pub named_at : (scope : List ScopeColumn) → length scope ≤ 96 → (written : ColRef) → (named_count scope written == 0) ≡ false
    → IsNamedAt scope written (column_index_of scope written)
named_at scope few written named =
    let found = found_at (is_named written) scope (some_found (is_named written) scope named) in
    record { column = found.0; there = ap (slice_get scope) (column_index_is scope few written) ∙ found.1; named = found.2 }

pub places_are_named : PlacesAreNamed
places_are_named stmt entries written limits narrow long named =
    named_at (scope_of stmt (headings_of entries)) (columns_are_few stmt entries limits narrow long) written named
