-- Without values a predicate stays as it is.
use Rattle.std.proofs.Common.{◌≡◌, List, [], ◌∷◌, map, refl, ap, ap₂}
use Rattle.rs_ast.specs.declared.bound.BoundCmp.{BoundCmp}
use Rattle.rs_ast.specs.declared.bound.BoundSide.{BoundSide}
use Rattle.rs_ast.specs.declared.bound.BoundSide.TheVariants as sides
use Rattle.rs_eval.specs.Filling.{filled_side, filled_cmp, filled}

side_stays : (side : BoundSide) → filled_side [] side ≡ side
side_stays (sides.Place column_index) = refl
side_stays (sides.Lit value) = refl
side_stays (sides.Param param) = refl

clause_stays : (clause : List BoundCmp) → map (filled_cmp []) clause ≡ clause
clause_stays [] = refl
clause_stays (cmp ∷ clause) =
    ap₂ (λ (one : BoundCmp) (others : List BoundCmp). one ∷ others) (ap (λ (side : BoundSide). record cmp { right = side }) (side_stays cmp.right)) (clause_stays clause)

pub clauses_stay : (clauses : List (List BoundCmp)) → filled [] clauses ≡ clauses
clauses_stay [] = refl
clauses_stay (clause ∷ clauses) = ap₂ (λ (one : List BoundCmp) (others : List (List BoundCmp)). one ∷ others) (clause_stays clause) (clauses_stay clauses)
