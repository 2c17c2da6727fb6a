-- What a statement is bound to, or the cause of its denial.
use Rattle.std.specs.Prelude.{Option, Some, None, Result, Ok, Err}
use Rattle.rs_base.specs.declared.reply.Denial.{Denial}
use Rattle.rs_plan.specs.declared.bound.Bound.{Bound}

abbrev pub unless_denied : Option Denial → Bound → Result Bound Denial
unless_denied None bound = Ok bound
unless_denied (Some cause) bound = Err cause
