-- Tests that all deny for one cause.
use Rattle.std.proofs.Common.{◌≡◌, Bool, true, false, ◌&&◌, not, cond, List, [], ◌∷◌, map, Some, None, refl}
use Rattle.std.specs.List.{list_all}
use Rattle.rs_base.specs.declared.reply.Denial.{Denial}
use Rattle.rs_scope.specs.Denials.{test, first_denial}

-- one test whether all pass serves as well as a test of each
pub one_cause : {X : Type 0} (passes : X → Bool) (cause : Denial) (xs : List X)
    → first_denial (test (not (list_all passes xs)) cause ∷ []) ≡ first_denial (map (λ x. test (not (passes x)) cause) xs)
one_cause passes cause [] = refl
one_cause passes cause (x ∷ xs) =
    elim (passes x) as (λ b. cond (not (b && list_all passes xs)) (Some cause) None ≡ cond (not b) (Some cause) (first_denial (map (λ y. test (not (passes y)) cause) xs)))
    [ true ↦ one_cause passes cause xs | false ↦ refl ]
