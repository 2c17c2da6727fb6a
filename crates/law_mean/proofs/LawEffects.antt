-- Effects: denied, and then without a change; or done.
use Rattle.std.proofs.Common.{◌≡◌, List, [], ◌∷◌, Option, Some, None, Result, Ok, Err, refl, ap, subst, sym}
use Rattle.rs_base.specs.declared.reply.Answer.{Answer}
use Rattle.rs_base.specs.declared.reply.Denial.{Denial}
use Rattle.rs_mean.specs.declared.change.Change.{Change}
use Rattle.rs_mean.specs.declared.change.Change.TheVariants as changes
use Rattle.rs_mean.specs.declared.change.Effect.{Effect}
use Rattle.rs_mean.specs.Effects.{done, denied, unless_denied}
use Rattle.rs_mean.specs.Outcome.{Done, Denied, outcome_of}

-- If it is denied it has no change, and if it is done its change and its answers are so.
pub record IsSo (P : Change → List Answer → Type 0) (effect : Effect) : Type 0 where
  pub idle : (cause : Denial) → outcome_of effect.answer ≡ Denied cause → effect.change ≡ changes.Nothing
  pub so : (given : List Answer) → outcome_of effect.answer ≡ Done given → P effect.change given

module _ (P : Change → List Answer → Type 0) where
  pub so_denied : (cause : Denial) → IsSo P (denied cause)
  so_denied cause = record { idle = λ other e. refl; so = λ given e. absurd cc }

  pub so_done : (change : Change) (answer : Answer) → P change (answer ∷ []) → IsSo P (done change answer)
  so_done change answer p = record { idle = λ cause e. absurd cc; so = λ given e. let same : answer ∷ [] ≡ given = cc in subst (λ (answers : List Answer). P change answers) same p }

  pub so_unless : (denial : Option Denial) (effect : Effect) → (denial ≡ None → IsSo P effect) → IsSo P (unless_denied denial effect)
  so_unless None effect so = so refl
  so_unless (Some cause) effect so = so_denied cause

  -- what holds without a change, and of each change that is so, holds of the change of an effect
  pub holds_of_change : (Q : Change → Type 0) (effect : Effect) → IsSo P effect → Q changes.Nothing
      → ((given : List Answer) → P effect.change given → Q effect.change) → Q effect.change
  holds_of_change Q effect is none each =
      let at : (answer : Result Answer Denial) → effect.answer ≡ answer → Q effect.change
      = λ answer. elim answer as (λ answer. effect.answer ≡ answer → Q effect.change) [
        | Ok given ↦ λ e. each (given ∷ []) (is.so (given ∷ []) (ap outcome_of e))
        | Err cause ↦ λ e. subst Q (sym (is.idle cause (ap outcome_of e))) none
      ] in
      at effect.answer refl
