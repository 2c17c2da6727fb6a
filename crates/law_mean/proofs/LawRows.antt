-- The rows that changes of rows make.
use Rattle.std.proofs.Common.{◌≡◌, ◌+◌, ◌≤◌, Bool, true, false, not, cond, List, [], ◌∷◌, map, filter, length, Result, Ok, Err, refl, ap, arith}
use Rattle.std.proofs.lemmas.List.Sums.{length-filter, count_by-le-length}
use Rattle.rs_base.specs.declared.reply.Denial.{Denial}
use Rattle.rs_base.specs.declared.value.Value.{Value}
use Rattle.rs_ast.specs.declared.bound.BoundCmp.{BoundCmp}
use Rattle.rs_ast.specs.declared.bound.BoundSet.{BoundSet}
use Rattle.rs_ast.specs.declared.change.Term.TheVariants as terms
use Rattle.rs_bind_change.specs.Binding.{bound_term, bound_rows}
use Rattle.rs_scope.specs.declared.scope.ScopeColumn.{ScopeColumn}
use Rattle.rs_eval.specs.Clauses.{holds}
use Rattle.rs_eval.specs.Setting.{term_value}
use Rattle.rs_eval.specs.RowChanges.{given_rows, updated_row, with_first, and_others, updated_rows, other_rows, matching_count}

-- ---- INSERT

module _ (scope : List ScopeColumn) where
  given_row : (row : List Value) → map (term_value [] []) (map (bound_term scope []) (map terms.Lit row)) ≡ row
  given_row [] = refl
  given_row (value ∷ row) = ap (λ values. value ∷ values) (given_row row)

  -- the rows of an INSERT of values are these values
  pub given_as_written : (rows : List (List Value)) → given_rows [] (bound_rows scope [] (map (map terms.Lit) rows)) ≡ rows
  given_as_written [] = refl
  given_as_written (row ∷ rows) = let first : map (term_value [] []) (map (bound_term scope []) (map terms.Lit row)) ≡ row = given_row row in
      let others : given_rows [] (bound_rows scope [] (map (map terms.Lit) rows)) ≡ rows = given_as_written rows in cc

-- ---- UPDATE

module _ (sets : List BoundSet) (clauses : List (List BoundCmp)) where
  first_put : (row : List Value) (rows : List (List Value)) (others : Result (List (List Value)) Denial) (new : List (List Value))
      → ((more : List (List Value)) → others ≡ Ok more → length more ≡ length rows) → with_first row others ≡ Ok new → length new ≡ length (row ∷ rows)
  first_put row rows (Ok more) new same e = let is : row ∷ more ≡ new = cc in omega (arith, ap length is, same more refl)
  first_put row rows (Err cause) new same e = absurd cc

  both_put : (row : List Value) (rows : List (List Value)) (first : Result (List Value) Denial) (new : List (List Value))
      → ((more : List (List Value)) → updated_rows [] sets clauses rows ≡ Ok more → length more ≡ length rows)
      → and_others first (updated_rows [] sets clauses rows) ≡ Ok new → length new ≡ length (row ∷ rows)
  both_put row rows (Ok item) new same e = first_put item rows (updated_rows [] sets clauses rows) new same e
  both_put row rows (Err cause) new same e = absurd cc

  -- an UPDATE gives as many rows
  pub as_many_updated : (rows new : List (List Value)) → updated_rows [] sets clauses rows ≡ Ok new → length new ≡ length rows
  as_many_updated [] new e = let is : [] ≡ new = cc in omega (arith, ap length is)
  as_many_updated (row ∷ rows) new e = both_put row rows (updated_row [] sets clauses row) new (as_many_updated rows) e

---- which rows match

pub matching_at_most : (clauses : List (List BoundCmp)) (rows : List (List Value)) → matching_count clauses rows ≤ length rows
matching_at_most clauses rows = omega (arith, length-filter (holds clauses) rows, count_by-le-length (holds clauses) rows)

pub others_and_matching : (clauses : List (List BoundCmp)) (rows : List (List Value)) → length (other_rows clauses rows) + matching_count clauses rows ≡ length rows
others_and_matching clauses [] = omega arith
others_and_matching clauses (row ∷ rows) =
    let Claim : Bool → Type 0 = λ b. length (cond (not b) (row ∷ other_rows clauses rows) (other_rows clauses rows)) + length (cond b (row ∷ filter (holds clauses) rows) (filter (holds clauses) rows)) ≡ length (row ∷ rows) in
    let rest : length (other_rows clauses rows) + matching_count clauses rows ≡ length rows = others_and_matching clauses rows in
    elim (holds clauses row) as Claim [ true ↦ omega arith | false ↦ omega arith ]
