-- What a statement changes, and its answer, or the cause of its denial. One that is denied changes nothing.
use Rattle.std.specs.Prelude.{Option, Some, None, Ok, Err}
use Rattle.rs_base.specs.declared.reply.Answer.{Answer}
use Rattle.rs_base.specs.declared.reply.Denial.{Denial}
use Rattle.rs_mean.specs.declared.change.Change.{Change}
use Rattle.rs_mean.specs.declared.change.Change.TheVariants as changes
use Rattle.rs_mean.specs.declared.change.Effect.{Effect}

abbrev pub done : Change → Answer → Effect
done change answer = record { change = change; answer = Ok answer }

abbrev pub denied : Denial → Effect
denied cause = record { change = changes.Nothing; answer = Err cause }

-- the effect, or the cause of the denial
abbrev pub unless_denied : Option Denial → Effect → Effect
unless_denied None effect = effect
unless_denied (Some cause) effect = denied cause
