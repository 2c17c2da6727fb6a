-- What a callee knows: the number of the last call that it accepted, and that call's reply, if it doesn't wait.
use Rattle.std.specs.Prelude.{◌≡◌, ℕ, ◌-◌, Bool, not, ◌&&◌, ◌||◌, ◌==◌, nat_lt, Option, Some, None, is_some, is_none, if◌then◌else◌}
use Rattle.rs_call.specs.declared.body.Step.{Step}
use Rattle.rs_call.specs.declared.body.Step.TheVariants as steps
use Rattle.rs_call.specs.declared.callee.Callee.{Callee}
use Rattle.rs_call.specs.declared.callee.Took.{Took}
use Rattle.rs_call.specs.declared.callee.Took.TheVariants as tooks

-- no call was accepted; numbers count from 1
abbrev pub fresh : {T : Type 0} → Callee T
fresh = record { last = 0; reply = None }

-- the last call waits for its reply
abbrev pub is_parked : {T : Type 0} → Callee T → Bool
is_parked callee = not (callee.last == 0) && is_none callee.reply

-- the kept reply
abbrev pub kept : {T : Type 0} → Callee T → Option T
kept callee = callee.reply

-- The answer to a call that isn't run. The next call is run, unless the last one waits.
abbrev pub unrun : {T : Type 0} → ℕ → Callee T → Option Took
unrun number callee =
    if number == 0 || nat_lt number callee.last then Some tooks.Old
    else if number == callee.last then Some (if is_some callee.reply then tooks.Repeat else tooks.Parked)
    else if number - 1 == callee.last && not (is_parked callee) then None
    else Some tooks.Ahead

abbrev pub took_by : {T : Type 0} → Step T → Took
took_by (steps.Told reply) = tooks.Ran
took_by steps.Waits = tooks.Parked

abbrev pub reply_in : {T : Type 0} → Step T → Option T
reply_in (steps.Told reply) = Some reply
reply_in steps.Waits = None

-- the call of this number was run and gave this step
abbrev pub accepted : {T : Type 0} → ℕ → Step T → Callee T
accepted number step = record { last = number; reply = reply_in step }

-- the parked call got its reply
abbrev pub answered : {T : Type 0} → T → Callee T → Callee T
answered reply callee = record callee { reply = Some reply }

-- what the run of the last call gave
abbrev pub step_of_reply : {T : Type 0} → Option T → Step T
step_of_reply (Some reply) = steps.Told reply
step_of_reply None = steps.Waits

abbrev pub last_step : {T : Type 0} → Callee T → Step T
last_step callee = step_of_reply callee.reply

-- A call was delivered: without a run nothing changes; a run is one of the body, and what it gave is accepted.
abbrev pub TakesBy : {Ask T B : Type 0} → (B → Ask → B → Step T → Type 0) → Option Took → ℕ → Ask → Callee T → B → Callee T → B → Took → Type 0
TakesBy runs (Some answer) number ask old before new after took = (took ≡ answer) × (new ≡ old) × (after ≡ before)
TakesBy runs None number ask old before new after took =
    runs before ask after (last_step new) × (new ≡ accepted number (last_step new)) × (took ≡ took_by (last_step new))

abbrev pub Takes : {Ask T B : Type 0} → (B → Ask → B → Step T → Type 0) → ℕ → Ask → Callee T → B → Callee T → B → Took → Type 0
Takes runs number ask old before new after took = TakesBy runs (unrun number old) number ask old before new after took
