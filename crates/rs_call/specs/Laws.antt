-- The laws of numbered calls.
use Rattle.std.specs.Prelude.{◌≡◌, ℕ, ◌≤◌, List, ◌∷◌, map, length, take, Some}
use Rattle.std.specs.List.{range_with_len}
use Rattle.rs_call.specs.declared.body.Step.{Step}
use Rattle.rs_call.specs.declared.callee.Callee.{Callee}
use Rattle.rs_call.specs.declared.callee.Took.TheVariants as tooks
use Rattle.rs_call.specs.Callee.{kept}
use Rattle.rs_call.specs.Course.{Event, Delivered, callee_after, IsCourse, ran, AreOf, reply_to, Doing, caller_after, sent, times_fresh}

-- what was called, in order: of each call that was sent, what it asks
abbrev pub called : {Ask : Type 0} → List (Doing Ask) → List Ask
called doings = map (λ message. message.1) (sent doings)

-- What ran is a prefix of what was called: the calls up to the last that was accepted, each once and in order.
pub record IsPrefix {Ask : Type 0} (ran asked : List Ask) (last : ℕ) : Type 0 where
  pub were_called : last ≤ length asked
  pub in_order : ran ≡ take last asked

abbrev pub RunsEachOnceInOrder : {Ask T B : Type 0} → (B → Ask → B → Step T → Type 0) → Type 0
RunsEachOnceInOrder {Ask} {T} {B} runs = (doings : List (Doing Ask)) (events : List (Event Ask T B))
    → IsCourse runs events → AreOf (sent doings) events → IsPrefix (ran events) (called doings) (callee_after events).last

-- a repeat finds the reply that its call got first, and the callee keeps it
pub record IsKept {T : Type 0} (reply : T) (old left : Callee T) : Type 0 where
  pub was_kept : kept old ≡ Some reply
  pub stays_kept : kept left ≡ Some reply

abbrev pub RepeatGetsKeptReply : {Ask T B : Type 0} → (B → Ask → B → Step T → Type 0) → Type 0
RepeatGetsKeptReply {Ask} {T} {B} runs = (number : ℕ) (ask : Ask) (left : Callee T) (before after : B) (older : List (Event Ask T B))
    → IsCourse runs (Delivered number ask tooks.Repeat left before after ∷ older)
    → (reply : T) × (reply_to number older ≡ Some reply) × IsKept reply (callee_after older) left

-- The calls get the numbers 1, 2, 3 and so on: none comes again.
abbrev pub NumbersCountUp : Type 0 → Type 0
NumbersCountUp Ask = (doings : List (Doing Ask)) → map (λ message. message.0) (sent doings) ≡ range_with_len 1 (caller_after doings).last

-- The reply to a call is fresh at most once.
abbrev pub AnsweredOnce : Type 0 → Type 0
AnsweredOnce Ask = (number : ℕ) (doings : List (Doing Ask)) → times_fresh number doings ≤ 1
