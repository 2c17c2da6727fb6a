-- The kinds of the values in rows: those of INSERT, and those of UPDATE.
use Rattle.std.proofs.Common.{◌≡◌, ℕ, ◌<◌, ◌≤◌, Bool, true, false, cond, List, [], ◌∷◌, ◌++◌, map, length, All, Option, Some, None, Result, Ok, Err, pos, flat_map, fold, slice_get, slice_set, get_or, unwrap_or, option_map, bytes_eq, ◌==◌, not, refl, sym, ap, ap₂, ◌∙◌, subst, arith}
use Rattle.std.specs.Cmp.Lexicographic.{pointwise}
use Rattle.std.specs.List.{list_any, list_all}
use Rattle.std.proofs.Math.Seq.{map-set_same}
use Rattle.std.proofs.lemmas.List.Elements.{All-nil, All-cons, All-head, All-tail}
use Rattle.std.proofs.lemmas.Option.{slice_get-map, unwrap_or-slice_get}
use Rattle.rs_base.specs.declared.reply.Denial.{Denial}
use Rattle.rs_base.specs.declared.reply.Denial.TheVariants as denials
use Rattle.rs_base.specs.declared.value.Kind.{Kind}
use Rattle.rs_base.specs.declared.value.Kind.TheVariants as kinds
use Rattle.rs_base.specs.declared.value.Value.{Value}
use Rattle.rs_base.specs.declared.value.Value.TheVariants as values
use Rattle.rs_base.specs.Value.{kind_of}
use Rattle.rs_ast.specs.declared.bound.BoundCmp.{BoundCmp}
use Rattle.rs_ast.specs.declared.bound.BoundSet.{BoundSet}
use Rattle.rs_ast.specs.declared.bound.BoundTerm.{BoundTerm}
use Rattle.rs_ast.specs.declared.change.Arith.{Arith}
use Rattle.rs_ast.specs.declared.change.Set.{Set}
use Rattle.rs_ast.specs.declared.change.Term.{Term}
use Rattle.rs_ast.specs.declared.change.Term.TheVariants as terms
use Rattle.rs_ast.specs.declared.column.ColDef.{ColDef}
use Rattle.rs_ast.specs.declared.column.ColRef.{ColRef}
use Rattle.rs_ast.specs.Kinds.{same_kind, kinds_fit}
use Rattle.rs_bind_change.specs.Binding.{bound_term, bound_rows, bound_set}
use Rattle.rs_bind_change.specs.Denials.{term_fits, row_fits, given_tests, row_tests, insert_tests, term_tests, term_kind, more_tests, expr_fits, set_tests, sets_tests}
use Rattle.rs_scope.specs.Denials.{Test, test, first_denial}
use Rattle.rs_scope.specs.Scope.{as_position, columns_as, named_count, column_index_of, unqualified, column_kind}
use Rattle.rs_scope.specs.declared.scope.ScopeColumn.{ScopeColumn}
use Rattle.rs_bind.proofs.OverScope.{kinds_in, kind_known, column_index_kind, column_index_within}
use Rattle.rs_bind.proofs.OverTests.{both_pass}
use Rattle.rs_eval.specs.Clauses.{holds}
use Rattle.rs_eval.specs.Setting.{term_value, combined, set_value, is_stored, with_sets, row_set}
use Rattle.rs_answer.specs.Kinds.{HasKinds}
use Rattle.rs_eval.specs.RowChanges.{given_rows, updated_row, with_first, and_others, updated_rows}
use Rattle.law_mean.proofs.LawTests.{passed, holds_if, both}

-- kinds that are the same are equal
same_kinds : (one other : Kind) → same_kind one other ≡ true → one ≡ other
same_kinds kinds.Int kinds.Int e = refl
same_kinds kinds.Int kinds.Text e = absurd cc
same_kinds kinds.Text kinds.Int e = absurd cc
same_kinds kinds.Text kinds.Text e = refl

-- a table's columns have the same kinds whatever its alias
pub kinds_as : (alias : List ℕ) (columns : List ColDef) → kinds_in (columns_as alias columns) ≡ map (λ (column : ColDef). column.kind) columns
kinds_as alias [] = refl
kinds_as alias (column ∷ columns) = ap (λ (others : List Kind). column.kind ∷ others) (kinds_as alias columns)

-- ---- INSERT

module _ (scope : List ScopeColumn) where
  -- a term that fits a column, and is no parameter, has a value of its kind
  given_of_kind : (term : Term) (column : ScopeColumn) → first_denial (given_tests [] term) ≡ None → term_fits [] term column ≡ true
      → kind_of (term_value [] [] (bound_term scope [] term)) ≡ column.kind
  given_of_kind (terms.Col name) column passes fits = absurd cc
  given_of_kind (terms.Lit value) column passes fits = sym (same_kinds column.kind (kind_of value) fits)
  given_of_kind (terms.Param name) column passes fits = absurd cc

  -- terms that fit columns, one by one, have values of their kinds
  given_of_kinds : (row : List Term) (columns : List ScopeColumn) → first_denial (flat_map (given_tests []) row) ≡ None → pointwise (term_fits []) row columns ≡ true
      → HasKinds (kinds_in columns) (map (term_value [] []) (map (bound_term scope []) row))
  given_of_kinds [] [] passes fits = refl
  given_of_kinds [] (column ∷ columns) passes fits = absurd cc
  given_of_kinds (term ∷ row) [] passes fits = absurd cc
  given_of_kinds (term ∷ row) (column ∷ columns) passes fits =
      let tests = both_pass (given_tests [] term) (flat_map (given_tests []) row) passes in
      let parts = both (term_fits [] term column) (pointwise (term_fits []) row columns) fits in
      ap₂ (λ (one : Kind) (others : List Kind). one ∷ others) (given_of_kind term column tests.0 parts.0) (given_of_kinds row columns tests.1 parts.1)

  -- each row of an INSERT that isn't denied has a value for each column, of its kind
  pub given_typed : (rows : List (List Term)) → first_denial (insert_tests rows scope []) ≡ None → All (HasKinds (kinds_in scope)) (given_rows [] (bound_rows scope [] rows))
  given_typed [] passes = All-nil (HasKinds (kinds_in scope))
  given_typed (row ∷ rows) passes =
      let tests = both_pass (row_tests scope [] row) (insert_tests rows scope []) passes in
      let first = passed (test (not (row_fits scope [] row)) denials.WrongType) (flat_map (given_tests []) row) tests.0 in
      All-cons (HasKinds (kinds_in scope)) (map (term_value [] []) (map (bound_term scope []) row)) (given_rows [] (bound_rows scope [] rows))
      (given_of_kinds row scope first.1 (holds_if (row_fits scope [] row) first.0)) (given_typed rows tests.1)

-- ---- UPDATE

-- a value that was found has the kind that was found
value_found : (found : Option Value) (kind : Kind) → option_map kind_of found ≡ Some kind → kind_of (unwrap_or found (values.Int (pos 0))) ≡ kind
value_found None kind e = absurd cc
value_found (Some value) kind e = cc

-- a kind that is known fits itself alone
fits_itself : (kind : Kind) (known : Option Kind) → (known ≡ None → ⊥) → kinds_fit (Some kind) known ≡ true → known ≡ Some kind
fits_itself kind None there fits = absurd (there refl)
fits_itself kind (Some other) there fits = ap Some (sym (same_kinds kind other fits))

-- the kind that is known
pub the_known : (known : Option Kind) → (known ≡ None → ⊥) → (kind : Kind) × (known ≡ Some kind)
the_known None there = absurd (there refl)
the_known (Some kind) there = (kind, refl)

module _ (scope : List ScopeColumn) (few : length scope ≤ 16) where
  -- few columns have indexes of 16 bits
  small : length scope ≤ 96
  small = omega arith

  -- a row has a value of its kind at the index of a column
  at_column_index : (row : List Value) (written : ColRef) (kind : Kind) → HasKinds (kinds_in scope) row → column_kind scope written ≡ Some kind
      → kind_of (unwrap_or (slice_get row (column_index_of scope written)) (values.Int (pos 0))) ≡ kind
  at_column_index row written kind typed is =
      let at_index : ℕ = column_index_of scope written in
      value_found (slice_get row at_index) kind
      (sym (slice_get-map kind_of row at_index) ∙ ap (λ (these : List Kind). slice_get these at_index) typed ∙ column_index_kind scope small written ∙ is)

  module _ (row : List Value) (typed : HasKinds (kinds_in scope) row) where
    -- a term that isn't denied, and fits a kind, has a value of this kind
    term_of_kind : (kind : Kind) (term : Term) → first_denial (term_tests scope [] term) ≡ None → kinds_fit (Some kind) (term_kind scope [] term) ≡ true
        → kind_of (term_value [] row (bound_term scope [] term)) ≡ kind
    term_of_kind kind (terms.Col name) passes fits =
        let written : ColRef = unqualified name in
        let named = (passed (test (named_count scope written == 0) denials.NoColumn) [] passes).0 in
        at_column_index row written kind typed (fits_itself kind (column_kind scope written) (kind_known scope small written named) fits)
    term_of_kind kind (terms.Lit value) passes fits = sym (same_kinds kind (kind_of value) fits)
    term_of_kind kind (terms.Param name) passes fits = absurd cc

    -- the second term, if there is one
    abbrev more_value : Option (Arith × Term) → Option (Arith × Value)
    more_value more =
        option_map (λ (bound : Arith × BoundTerm). (bound.0, term_value [] row bound.1)) (option_map (λ (written : Arith × Term). (written.0, bound_term scope [] written.1)) more)

    -- what is computed has the kind that it fits
    expr_of_kind : (kind : Kind) (first : Term) (more : Option (Arith × Term)) → first_denial (term_tests scope [] first) ≡ None
        → expr_fits scope [] (Some kind) first more ≡ true → kind_of (combined (term_value [] row (bound_term scope [] first)) (more_value more)) ≡ kind
    expr_of_kind kind first None passes fits = term_of_kind kind first passes fits
    expr_of_kind kind first (Some more) passes fits =
        let parts = both _ _ fits in
        let ones = both _ _ parts.0 in
        sym (same_kinds kind kinds.Int ones.0)

    module _ (set : Set) (before : List Set) (passes : first_denial (set_tests scope [] before set) ≡ None) where
      -- the assigned column
      abbrev written : ColRef
      written = unqualified set.column

      -- an assignment keeps the kind of the value
      set_typed : (new : List Value) → HasKinds (kinds_in scope) new
          → HasKinds (kinds_in scope) (slice_set new (as_position (column_index_of scope written)) (set_value [] row (bound_set scope [] set)))
      set_typed new same =
          let first_tests : List Test = term_tests scope [] set.expr.first in
          let fitting : Test = test (not (expr_fits scope [] (column_kind scope written) set.expr.first set.expr.more)) denials.WrongType in
          let there : Test = test (named_count scope written == 0) denials.NoColumn in
          let once : Test = test (list_any (λ (other : Set). bytes_eq other.column set.column) before) denials.TwoColumns in
          let prefix = both_pass (there ∷ once ∷ first_tests ++ more_tests scope [] set.expr.more) (fitting ∷ []) passes in
          let named = passed there (once ∷ first_tests ++ more_tests scope [] set.expr.more) prefix.0 in
          let terms = both_pass first_tests (more_tests scope [] set.expr.more) (passed once (first_tests ++ more_tests scope [] set.expr.more) named.1).1 in
          let fits = holds_if (expr_fits scope [] (column_kind scope written) set.expr.first set.expr.more) (passed fitting [] prefix.1).0 in
          let known = the_known (column_kind scope written) (kind_known scope small written named.0) in
          let value : Value = set_value [] row (bound_set scope [] set) in
          let new_kind : kind_of value ≡ known.0
          = expr_of_kind known.0 set.expr.first set.expr.more terms.0 (subst (λ (kind : Option Kind). expr_fits scope [] kind set.expr.first set.expr.more ≡ true) known.1 fits) in
          let old_kind : kind_of (get_or new (column_index_of scope written) (values.Int (pos 0))) ≡ known.0
          = ap kind_of (sym (unwrap_or-slice_get new (column_index_of scope written) (values.Int (pos 0)))) ∙ at_column_index new written known.0 same known.1 in
          let within : column_index_of scope written < length scope = column_index_within scope written named.0 in
          let at_index : as_position (column_index_of scope written) ≡ column_index_of scope written = omega arith in
          ap (λ (n : ℕ). map kind_of (slice_set new n value)) at_index
          ∙ map-set_same kind_of new (column_index_of scope written) value (values.Int (pos 0)) (new_kind ∙ sym old_kind)
          ∙ same

    -- assignments keep the kind of each value
    sets_typed : (sets before : List Set) (new : List Value) → first_denial (sets_tests scope [] before sets) ≡ None → HasKinds (kinds_in scope) new
        → HasKinds (kinds_in scope) (fold (λ (items : List Value) (set : BoundSet). slice_set items set.column (set_value [] row set)) new (map (bound_set scope []) sets))
    sets_typed [] before new passes same = same
    sets_typed (set ∷ sets) before new passes same =
        let parts = both_pass (set_tests scope [] before set) (sets_tests scope [] (before ++ set ∷ []) sets) passes in
        sets_typed sets (before ++ set ∷ []) (slice_set new (as_position (column_index_of scope (unqualified set.column))) (set_value [] row (bound_set scope [] set))) parts.1
        (set_typed set before parts.0 new same)

  -- an updated row has values of the kinds that it had
  pub row_typed : (sets : List Set) (clauses : List (List BoundCmp)) (row new : List Value) → first_denial (sets_tests scope [] [] sets) ≡ None
      → HasKinds (kinds_in scope) row → updated_row [] (map (bound_set scope []) sets) clauses row ≡ Ok new → HasKinds (kinds_in scope) new
  unfolding row_set
  row_typed sets clauses row new passes typed made =
      let bound : List BoundSet = map (bound_set scope []) sets in
      let last : List Value = with_sets bound [] row in
      let Stored : Bool → Type 0 = λ stored. cond {A = Result (List Value) Denial} stored (Ok last) (Err denials.Overflow) ≡ Ok new → HasKinds (kinds_in scope) new in
      let stored : (b : Bool) → Stored b = λ b. elim b as Stored [
        | true ↦ λ e. (let is : last ≡ new = cc in subst (HasKinds (kinds_in scope)) is (sets_typed row typed sets [] row passes typed))
        | false ↦ λ e. absurd cc
      ] in
      let Met : Bool → Type 0 = λ matching_count. cond {A = Result (List Value) Denial} matching_count (row_set bound [] row) (Ok row) ≡ Ok new → HasKinds (kinds_in scope) new in
      let matching_count : (b : Bool) → Met b = λ b. elim b as Met [
        | true ↦ stored (list_all (λ (set : BoundSet). is_stored (set_value [] row set)) bound)
        | false ↦ λ e. (let is : row ≡ new = cc in subst (HasKinds (kinds_in scope)) is typed)
      ] in
      matching_count (holds clauses row) made

-- ---- the rows of an UPDATE

module _ (P : List Value → Type 0) where
  -- the first row is so, and the others are
  first_so : (item : List Value) (others : Result (List (List Value)) Denial) (new : List (List Value)) → P item
      → ((more : List (List Value)) → others ≡ Ok more → All P more) → with_first item others ≡ Ok new → All P new
  first_so item (Ok more) new p rest e = let is : item ∷ more ≡ new = cc in subst (All P) is (All-cons P item more p (rest more refl))
  first_so item (Err cause) new p rest e = absurd cc

  -- the first row is so if it was made, and the others are
  both_so : (first : Result (List Value) Denial) (others : Result (List (List Value)) Denial) (new : List (List Value)) → ((item : List Value) → first ≡ Ok item → P item)
      → ((more : List (List Value)) → others ≡ Ok more → All P more) → and_others first others ≡ Ok new → All P new
  both_so (Ok item) others new p rest e = first_so item others new (p item refl) rest e
  both_so (Err cause) others new p rest e = absurd cc

  module _ (sets : List BoundSet) (clauses : List (List BoundCmp)) (each : (row new : List Value) → P row → updated_row [] sets clauses row ≡ Ok new → P new) where
    -- what an update of a row keeps, an UPDATE keeps of each
    pub updated_so : (rows new : List (List Value)) → All P rows → updated_rows [] sets clauses rows ≡ Ok new → All P new
    updated_so [] new all e = let is : [] ≡ new = cc in subst (All P) is (All-nil P)
    updated_so (row ∷ rows) new all e =
        both_so (updated_row [] sets clauses row) (updated_rows [] sets clauses rows) new (λ item made. each row item (All-head P row rows all) made)
        (λ more made. updated_so rows more (All-tail P row rows all) made) e
