-- The number of matching rows.
use Rattle.std.proofs.Common.{◌≡◌, ◌+◌, ◌≤◌, true, cond, not, List, ◌∷◌, filter, length, refl, ap, arith}
use Rattle.std.proofs.lemmas.List.Filters.{length-filter_both}
use Rattle.rs_base.specs.declared.value.Value.{Value}
use Rattle.rs_ast.specs.declared.bound.BoundCmp.{BoundCmp}
use Rattle.rs_eval.specs.Clauses.{holds}
use Rattle.rs_eval.specs.RowChanges.{matching_count}

module _ (clauses : List (List BoundCmp)) where
  -- a matching row is one more
  pub matching_more : (row : List Value) (others : List (List Value)) → holds clauses row ≡ true → matching_count clauses (row ∷ others) ≡ matching_count clauses others + 1
  matching_more row others e =
      let one : matching_count clauses (row ∷ others) ≡ length (row ∷ filter (holds clauses) others)
      = ap (λ b. length (cond b (row ∷ filter (holds clauses) others) (filter (holds clauses) others))) e in
      omega (arith, one)

  -- no more rows match than there are
  pub matching_within : (rows : List (List Value)) → matching_count clauses rows ≤ length rows
  matching_within rows = omega (arith, length-filter_both (holds clauses) (λ row. not (holds clauses row)) (λ row. refl) rows)
