-- The meaning of an execution of one statement, by its effect.
use Rattle.std.proofs.Common.{◌≡◌, List, [], ◌∷◌, Result, Ok, Err, refl, sym, ap, ◌∙◌, subst}
use Rattle.rs_base.specs.declared.reply.Answer.{Answer}
use Rattle.rs_base.specs.declared.reply.Denial.{Denial}
use Rattle.rs_mean.specs.declared.change.Change.{Change}
use Rattle.rs_mean.specs.declared.change.Effect.{Effect}
use Rattle.rs_mean.specs.declared.execution.Execution.{Execution}
use Rattle.rs_mean.specs.Changes.{changed}
use Rattle.rs_mean.specs.Database.{Database}
use Rattle.rs_mean.specs.Meaning.{answered_first, settled, effect_of, meaning}
use Rattle.rs_mean.specs.Outcome.{Outcome, Done, Denied, outcome_of}
use Rattle.rs_mean.proofs.Idle.{IsIdle, effect_idle}

-- the database with a change, and the outcome of one statement
abbrev pub meant : Database → Effect → Database × Outcome
meant db effect = (changed effect.change db, outcome_of effect.answer)

-- one statement settles what it means
settled_one : (db : Database) (effect : Effect) → IsIdle effect → settled db (answered_first effect.answer (Ok (changed effect.change db, []))) ≡ meant db effect
settled_one db effect is =
    let Claim : Result Answer Denial → Type 0 = λ answer. effect.answer ≡ answer
    → settled db (answered_first answer (Ok (changed effect.change db, []))) ≡ meant db (record effect { answer = answer }) in
    let at : (answer : Result Answer Denial) → Claim answer = λ answer. elim answer as Claim [
      | Ok given ↦ λ e. refl
      | Err cause ↦ λ e. (let pair : Change → Database × Outcome = λ change. (changed change db, Denied cause) in ap pair (sym (is.idle cause e)))
    ] in
    at effect.answer refl

module _ (db : Database) (execution : Execution) where
  -- the meaning of an execution is the change of its statement, and its answer
  pub meaning_of_effect : meaning db execution ≡ meant db (effect_of db execution)
  unfolding meaning effect_of
  meaning_of_effect = settled_one db (effect_of db execution) (effect_idle db execution)

  -- the database after it
  pub changed_is : (meaning db execution).0 ≡ changed (effect_of db execution).change db
  changed_is = ap (λ (after : Database × Outcome). after.0) meaning_of_effect

  -- its outcome
  pub outcome_is : (meaning db execution).1 ≡ outcome_of (effect_of db execution).answer
  outcome_is = ap (λ (after : Database × Outcome). after.1) meaning_of_effect

  -- an execution is done or denied
  pub done_or_denied : (P : Outcome → Type 0) → ((given : List Answer) → P (Done given)) → ((cause : Denial) → P (Denied cause)) → P (meaning db execution).1
  done_or_denied P if_done if_denied =
      let at : (answer : Result Answer Denial) → P (outcome_of answer)
      = λ answer. elim answer as (λ answer. P (outcome_of answer)) [ Ok given ↦ if_done (given ∷ []) | Err cause ↦ if_denied cause ] in
      subst P (sym outcome_is) (at (effect_of db execution).answer)

  -- the meaning by an effect that is that of its statement
  pub means : (effect : Effect) → effect ≡ effect_of db execution → meaning db execution ≡ meant db effect
  means effect is = meaning_of_effect ∙ ap (meant db) (sym is)
