-- The columns of a statement against those of its entries: a column that is there has its index, and its kind there.
use Rattle.std.proofs.Common.{◌≡◌, ℕ, zero, suc, ◌+◌, ◌*◌, ◌<◌, ◌≤◌, Bool, true, false, cond, not, ◌&&◌, ◌||◌, List, [], ◌∷◌, ◌++◌, map, length, None, refl, sym, ap, ap₂, ◌∙◌, append-nil, arith, lt-ltb, length-append}
use Rattle.std.specs.Prelude.{◌==◌, nat_lt, count_by, All}
use Rattle.std.specs.List.{list_any, list_all, position_or_len, slice_get}
use Rattle.std.specs.Option.{option_map}
use Rattle.std.proofs.lemmas.List.{length-map, map-append}
use Rattle.std.proofs.lemmas.List.Elements.{All-head, All-tail}
use Rattle.std.proofs.lemmas.List.Folds.{find_at, sum_by-zero}
use Rattle.std.proofs.lemmas.List.Sums.{prefix_len-le-length}
use Rattle.std.proofs.lemmas.Option.{slice_get-map}
use Rattle.rs_base.specs.declared.reply.Denial.TheVariants as denials
use Rattle.rs_base.specs.declared.value.Kind.{Kind}
use Rattle.rs_ast.specs.declared.column.ColRef.{ColRef}
use Rattle.rs_ast.specs.declared.entry.Column.{Column}
use Rattle.rs_ast.specs.declared.entry.Entry.{Entry}
use Rattle.rs_ast.specs.declared.select.TableRef.{TableRef}
use Rattle.rs_plan.specs.Over.{kinds_of, is_column_index, IsNarrow}
use Rattle.rs_scope.specs.declared.scope.ScopeColumn.{ScopeColumn}
use Rattle.rs_scope.specs.Denials.{column_tests, first_denial, test}
use Rattle.rs_bind.specs.Entries.{defined, heading_of, headings_of}
use Rattle.rs_scope.specs.Scope.{columns_as, alias_of, query_scope, table_scope, is_named, named_count, column_index_of, column_kind}
use Rattle.rs_bind.proofs.OverTests.{first_passes}

-- ---- the kinds of the columns

abbrev pub kinds_in : List ScopeColumn → List Kind
kinds_in scope = map (λ (column : ScopeColumn). column.kind) scope

abbrev pub entry_kinds : Entry → List Kind
entry_kinds entry = map (λ (column : Column). column.kind) entry.columns

-- a table's columns have the kinds of its entry, whatever its alias
kinds_as : (alias : List ℕ) (columns : List Column) → kinds_in (columns_as alias (map defined columns)) ≡ map (λ (column : Column). column.kind) columns
kinds_as alias [] = refl
kinds_as alias (column ∷ columns) = ap (λ (kinds : List Kind). column.kind ∷ kinds) (kinds_as alias columns)

pub table_kinds : (entry : Entry) → kinds_in (table_scope (heading_of entry)) ≡ kinds_of (entry ∷ [])
table_kinds entry = kinds_as entry.name.object entry.columns ∙ sym (append-nil (entry_kinds entry))

pub query_kinds : (refs : List TableRef) (entries : List Entry) → length entries ≡ length refs → kinds_in (query_scope refs (headings_of entries)) ≡ kinds_of entries
query_kinds [] [] long = refl
query_kinds [] (entry ∷ entries) long = absurd (omega arith)
query_kinds (ref ∷ refs) [] long = absurd (omega arith)
query_kinds (ref ∷ refs) (entry ∷ entries) long =
    map-append (λ (column : ScopeColumn). column.kind) (columns_as (alias_of ref (heading_of entry)) (map defined entry.columns)) (query_scope refs (headings_of entries))
    ∙ ap₂ (λ (ones others : List Kind). ones ++ others) (kinds_as (alias_of ref (heading_of entry)) entry.columns) (query_kinds refs entries (omega arith))

---- the number of columns

pub kinds_are_few : (entries : List Entry) → All IsNarrow entries → length (kinds_of entries) ≤ length entries * 16
kinds_are_few [] narrow = omega arith
kinds_are_few (entry ∷ entries) narrow =
    let first : length entry.columns ≤ 16 = All-head IsNarrow entry entries narrow in
    let rest = kinds_are_few entries (All-tail IsNarrow entry entries narrow) in
    let joined = length-append (entry_kinds entry) (kinds_of entries) in
    let mapped = length-map entry.columns (λ (column : Column). column.kind) in
    omega arith

---- the index of a column

module _ {X : Type 0} (p : X → Bool) where
  -- one that passes has its index
  pub any_found : (xs : List X) → list_any p xs ≡ true → position_or_len p xs < length xs
  any_found [] = λ e. absurd cc
  any_found (x ∷ xs) =
      elim (p x) as (λ b. (b || list_any p xs) ≡ true → cond (not b) (1 + position_or_len p xs) 0 < suc (length xs))
      [ true ↦ λ e. omega arith | false ↦ λ e. (let later = any_found xs e in omega arith) ]

  counted_found : (xs : List X) → list_all (λ x. cond (p x) 1 0 == 0) xs ≡ false → position_or_len p xs < length xs
  counted_found [] = λ e. absurd cc
  counted_found (x ∷ xs) =
      elim (p x) as (λ b. ((cond b 1 0 == 0) && list_all (λ x. cond (p x) 1 0 == 0) xs) ≡ false → cond (not b) (1 + position_or_len p xs) 0 < suc (length xs))
      [ true ↦ λ e. omega arith | false ↦ λ e. (let later = counted_found xs e in omega arith) ]

  pub some_found : (xs : List X) → (count_by p xs == 0) ≡ false → position_or_len p xs < length xs
  some_found xs e = counted_found xs (sym (sum_by-zero (λ x. cond (p x) 1 0) xs) ∙ e)

pub get_within : {X : Type 0} (xs : List X) (i : ℕ) → i < length xs → slice_get xs i ≡ None → ⊥
get_within [] i within e = omega arith
get_within (x ∷ xs) zero within e = cc
get_within (x ∷ xs) (suc i) within e = get_within xs i (omega arith) e

module _ (scope : List ScopeColumn) where
  -- a column that is there has an index among them
  pub column_index_within : (written : ColRef) → (named_count scope written == 0) ≡ false → column_index_of scope written < length scope
  column_index_within written named = let found = some_found (is_named written) scope named in omega arith

  pub column_index_there : (written : ColRef) → (named_count scope written == 0) ≡ false → is_column_index (kinds_in scope) (column_index_of scope written) ≡ true
  column_index_there written named =
      let within = column_index_within written named in
      let mapped = length-map scope (λ (column : ScopeColumn). column.kind) in
      lt-ltb (column_index_of scope written) (length (kinds_in scope)) (omega arith)

  pub column_there : (written : ColRef) → first_denial (column_tests scope written) ≡ None → is_column_index (kinds_in scope) (column_index_of scope written) ≡ true
  column_there written passes =
      column_index_there written
      (first_passes (test (named_count scope written == 0) denials.NoColumn) (test (nat_lt 1 (named_count scope written)) denials.TwoColumns ∷ []) passes).0

  -- the kind at a column's index is its kind, if there are few columns
  module _ (small : length scope ≤ 96) where
    pub column_index_is : (written : ColRef) → column_index_of scope written ≡ position_or_len (is_named written) scope
    column_index_is written =
        let most = prefix_len-le-length (λ column. not (is_named written column)) scope in
        omega arith

    pub column_index_kind : (written : ColRef) → slice_get (kinds_in scope) (column_index_of scope written) ≡ column_kind scope written
    column_index_kind written =
        ap (slice_get (kinds_in scope)) (column_index_is written)
        ∙ slice_get-map (λ (column : ScopeColumn). column.kind) scope (position_or_len (is_named written) scope)
        ∙ ap (option_map (λ (column : ScopeColumn). column.kind)) (sym (find_at (is_named written) scope))

    -- a column that is there has a kind
    pub kind_known : (written : ColRef) → (named_count scope written == 0) ≡ false → column_kind scope written ≡ None → ⊥
    kind_known written named none =
        let within = column_index_within written named in
        let mapped = length-map scope (λ (column : ScopeColumn). column.kind) in
        get_within (kinds_in scope) (column_index_of scope written) (omega arith) (column_index_kind written ∙ none)
