-- The outcomes of executions.
use Rattle.std.specs.Prelude.{List, [], ◌∷◌, Result, Ok, Err}
use Rattle.rs_base.specs.declared.reply.Answer.{Answer}
use Rattle.rs_base.specs.declared.reply.Denial.{Denial}

-- An answer for each statement of the execution, or the cause of its denial; or lines are shown, which aren't of the
-- database.
pub data Outcome : Type 0 where
  Done : List Answer → Outcome
  Denied : Denial → Outcome
  Shown : Outcome

-- the outcome of an execution of one statement
abbrev pub outcome_of : Result Answer Denial → Outcome
outcome_of (Ok answer) = Done (answer ∷ [])
outcome_of (Err cause) = Denied cause
