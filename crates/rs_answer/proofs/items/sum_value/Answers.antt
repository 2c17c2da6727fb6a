use Rattle.std.proofs.Common.{◌≡◌, ◌∙◌, ap, sym, not, rules, w64, Some, subst}
use Rattle.std.specs.Int.{w128}
use Rattle.std.specs.Int.RustNames.{FitsSigned}
use Rattle.std.proofs.lemmas.Int.{to_z-of_z}
use Rattle.rs_base.specs.declared.value.Value.TheVariants.{Int}
use Rattle.rs_answer.proofs.Fitting.{is_i64_from_fits, not_i64}
use Rattle.rs_answer.proofs.items.sum_value.Goals as goal

pub returns-in-Ok : goal.returns-in-Ok
returns-in-Ok c =
    let fits : FitsSigned w128 c.sum_at.result = search rules in
    let same = to_z-of_z w128 c.sum_at.result fits in
    let sum = same ∙ c.sum_at.ensures in
    let small = subst (FitsSigned w64) sum c.in-Ok.ensures.0 in
    let given : c.in-Ok.sum ≡ _ = c.in-Ok.ensures.1 ∙ sum in
    (ap not (is_i64_from_fits _ small), ap (λ z. Some (Int z)) (to_z-of_z w64 c.in-Ok.sum (subst (FitsSigned w64) (sym given) small) ∙ given))

pub returns-in-Err : goal.returns-in-Err
returns-in-Err c =
    let fits : FitsSigned w128 c.sum_at.result = search rules in
    let sum = to_z-of_z w128 c.sum_at.result fits ∙ c.sum_at.ensures in
    ap not (not_i64 _ (λ small. c.in-Err.ensures (subst (FitsSigned w64) (sym sum) small)))
