-- The courses of a callee with its body, and of a caller, over every list of deliveries. The events of a course are listed
-- the latest first.
use Rattle.std.specs.Prelude.{◌≡◌, ℕ, ◌+◌, Bool, true, ◌&&◌, ◌==◌, ◌⊎◌, List, [], ◌∷◌, ◌++◌, Option, Some, None, is_none, if◌then◌else◌, ⊤}
use Rattle.std.specs.Option.{option_or}
use Rattle.rs_call.specs.declared.body.Step.{Step}
use Rattle.rs_call.specs.declared.callee.Callee.{Callee}
use Rattle.rs_call.specs.declared.callee.Took.{Took}
use Rattle.rs_call.specs.declared.caller.Caller.{Caller}
use Rattle.rs_call.specs.Callee as callee
use Rattle.rs_call.specs.Callee.{unrun, is_parked, answered, Takes}
use Rattle.rs_call.specs.Caller as caller
use Rattle.rs_call.specs.Caller.{next_number, after_next, awaits, after_reply}

-- ---- a caller

-- a call is made, or the reply to the call of a number comes
pub data Doing (Ask : Type 0) : Type 0 where
  Calls : (ask : Ask) → Doing Ask
  Hears : (number : ℕ) → Doing Ask

abbrev pub caller_after : {Ask : Type 0} → List (Doing Ask) → Caller
caller_after [] = caller.fresh
caller_after (Calls ask ∷ older) = after_next (caller_after older)
caller_after (Hears number ∷ older) = after_reply number (caller_after older)

-- the message of a call that got a number; without one the call isn't sent
abbrev pub message_of : {Ask : Type 0} → Option ℕ → Ask → List (ℕ × Ask)
message_of None ask = []
message_of (Some number) ask = (number, ask) ∷ []

-- the messages that were sent, in order: a number and what is asked
abbrev pub sent : {Ask : Type 0} → List (Doing Ask) → List (ℕ × Ask)
sent [] = []
sent (Calls ask ∷ older) = sent older ++ message_of (next_number (caller_after older)) ask
sent (Hears number ∷ older) = sent older

-- how often the reply to the call of this number was fresh
abbrev pub times_fresh : {Ask : Type 0} → ℕ → List (Doing Ask) → ℕ
times_fresh number [] = 0
times_fresh number (Calls ask ∷ older) = times_fresh number older
times_fresh number (Hears n ∷ older) = times_fresh number older + (if number == n && awaits n (caller_after older) then 1 else 0)

-- ---- a callee

-- A call is delivered, with its answer, the callee that it leaves, and the body as it comes and as it leaves it; or the parked call gets its reply.
pub data Event (Ask T B : Type 0) : Type 0 where
  Delivered : (number : ℕ) → (ask : Ask) → (took : Took) → (left : Callee T) → (before after : B) → Event Ask T B
  Replied : (reply : T) → Event Ask T B

abbrev pub callee_after : {Ask T B : Type 0} → List (Event Ask T B) → Callee T
callee_after [] = callee.fresh
callee_after (Delivered number ask took left before after ∷ older) = left
callee_after (Replied reply ∷ older) = answered reply (callee_after older)

-- Each delivery is one that the callee takes, and each reply comes to a parked call. The body may change between two deliveries.
abbrev pub IsCourse : {Ask T B : Type 0} → (B → Ask → B → Step T → Type 0) → List (Event Ask T B) → Type 0
IsCourse runs [] = ⊤
IsCourse runs (Delivered number ask took left before after ∷ older) = Takes runs number ask (callee_after older) before left after took × IsCourse runs older
IsCourse runs (Replied reply ∷ older) = (is_parked (callee_after older) ≡ true) × IsCourse runs older

-- a call of this number runs now
abbrev pub is_run : {T : Type 0} → ℕ → Callee T → Bool
is_run number old = is_none (unrun number old)

-- the calls that the body ran, in order
abbrev pub ran : {Ask T B : Type 0} → List (Event Ask T B) → List Ask
ran [] = []
ran (Delivered number ask took left before after ∷ older) = if is_run number (callee_after older) then ran older ++ ask ∷ [] else ran older
ran (Replied reply ∷ older) = ran older

-- x is one of these
abbrev pub IsIn : {A : Type 0} → A → List A → Type 0
IsIn x [] = ⊥
IsIn x (y ∷ ys) = (x ≡ y) ⊎ IsIn x ys

-- Each delivered call is a message that was sent. It may come in any order, again, or never.
abbrev pub AreOf : {Ask T B : Type 0} → List (ℕ × Ask) → List (Event Ask T B) → Type 0
AreOf messages [] = ⊤
AreOf messages (Delivered number ask took left before after ∷ older) = IsIn (number, ask) messages × AreOf messages older
AreOf messages (Replied reply ∷ older) = AreOf messages older

-- the reply that the call of this number got first
abbrev pub reply_to : {Ask T B : Type 0} → ℕ → List (Event Ask T B) → Option T
reply_to number [] = None
reply_to number (Delivered n ask took left before after ∷ older) =
    option_or (reply_to number older) (if number == n && is_run n (callee_after older) then left.reply else None)
reply_to number (Replied reply ∷ older) =
    option_or (reply_to number older) (if number == (callee_after older).last then Some reply else None)
