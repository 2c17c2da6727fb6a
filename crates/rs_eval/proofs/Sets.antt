-- Assignments, one after the other.
use Rattle.std.proofs.Common.{◌≡◌, ◌<◌, ◌≤◌, ℕ, Bool, true, false, List, length, take, get_or, IsTrue, Ok, Err, cond, refl, sym, ap, ◌∙◌}
use Rattle.std.specs.List.{list_all}
use Rattle.std.proofs.lemmas.List.{take_all}
use Rattle.std.proofs.lemmas.List.Folds.{list_all_at}
use Rattle.rs_base.specs.declared.reply.Denial.TheVariants as denials
use Rattle.rs_base.specs.declared.value.Value.{Value}
use Rattle.rs_ast.specs.declared.bound.BoundSet.{BoundSet}
use Rattle.rs_eval.specs.Setting.{is_stored, set_value, with_sets, row_set}

not_true : (b : Bool) → ¬ (IsTrue b) → b ≡ false
not_true true none = absurd (none refl)
not_true false none = refl

-- an assignment whose expression isn't an integer of 64 bits denies the whole
pub overflows : (sets : List BoundSet) (given row : List Value) (i : ℕ) (set : BoundSet) → i < length sets → set ≡ get_or sets i set
    → ¬ (IsTrue (is_stored (set_value given row set))) → Err denials.Overflow ≡ row_set sets given row
unfolding row_set
overflows sets given row i set within is none =
    let at : is_stored (set_value given row (get_or sets i set)) ≡ false = ap (λ (s : BoundSet). is_stored (set_value given row s)) (sym is) ∙ not_true _ none in
    let whole : list_all (λ s. is_stored (set_value given row s)) sets ≡ false = list_all_at (λ s. is_stored (set_value given row s)) sets i set within at in
    sym (ap (λ b. cond b (Ok (with_sets sets given row)) (Err denials.Overflow)) whole)

-- each was an integer of 64 bits
pub all_set : (sets : List BoundSet) (given row new : List Value) (i : ℕ) → length sets ≤ i → new ≡ with_sets (take i sets) given row
    → list_all (λ set. is_stored (set_value given row set)) (take i sets) ≡ true → Ok new ≡ row_set sets given row
unfolding row_set
all_set sets given row new i past so_far stored =
    let all : take i sets ≡ sets = take_all i sets past in
    let whole : list_all (λ s. is_stored (set_value given row s)) sets ≡ true = ap (list_all (λ s. is_stored (set_value given row s))) (sym all) ∙ stored in
    let same : new ≡ with_sets sets given row = so_far ∙ ap (λ s. with_sets s given row) all in
    ap Ok same ∙ sym (ap (λ b. cond b (Ok (with_sets sets given row)) (Err denials.Overflow)) whole)
