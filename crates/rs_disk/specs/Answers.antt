-- What an answer of a disk means. A course is all that happened to a disk so far, if the disk reports it.
use Rattle.std.specs.Prelude.{◌≡◌, ℕ, ◌++◌, [], ◌∷◌, List, Option, Some, IfSome, Result, MatchResult, IsErrOf, IsTrue, IsFalse}
use Rattle.rs_base.specs.declared.fault.Fault.{Fault}
use Rattle.rs_base.specs.declared.fault.Fault.TheVariants as faults
use Rattle.rs_disk.specs.declared.call.Call.{Call}
use Rattle.rs_disk.specs.declared.call.State.{State}
use Rattle.rs_disk.specs.declared.call.Act.{Act}
use Rattle.rs_disk.specs.declared.call.Act.TheVariants as acts
use Rattle.rs_disk.specs.Disk.{content, content_of, in_range, tried, state_of}
use Rattle.rs_disk.specs.Images.{IsLeft}

abbrev pub Course : Type 0
Course = Option (List Act)

-- the call is in range, and was done
abbrev pub WasDone : Call → Course → Course → Type 0
WasDone call old new = IfSome old (λ past. (new ≡ Some (past ++ acts.Done call ∷ [])) × IsTrue (in_range call (content_of past)))

-- this happens at a call that fails
abbrev pub IsFailure : Call → State → Act → Type 0
IsFailure call s (acts.Done one) = ⊥
IsFailure call s (acts.Refused one) = (one ≡ call) × IsFalse (in_range call (content s))
IsFailure call s (acts.Failed one left) = (one ≡ call) × IsLeft (tried call s) left
IsFailure call s (acts.Stopped left) = ⊥

abbrev pub HasFailed : Call → Course → Course → Type 0
HasFailed call old new = IfSome old (λ past. (act : Act) × (new ≡ Some (past ++ act ∷ [])) × IsFailure call (state_of past) act)

abbrev pub Fails : Fault → Call → Course → Course → Type 0
Fails faults.Failed call old new = HasFailed call old new
Fails faults.NoMemory call old new = new ≡ old

-- the call was done, or it failed, or on out of memory nothing happened
abbrev pub Answers : {X : Type 0} → Result X Fault → Call → Course → Course → Type 0
Answers r call old new = MatchResult r (λ _. WasDone call old new) (λ fault. Fails fault call old new)

-- the content, if the disk reports it, has this property
abbrev pub IfKnown : Course → (List ℕ → Type 0) → Type 0
IfKnown course P = IfSome course (λ past. P (content_of past))

-- A steady disk does each call in range, or runs out of memory, and stays steady.
abbrev pub StaysSteady : {X : Type 0} → Result X Fault → Call → Course → Type 0 → Type 0 → Type 0
StaysSteady r call course was is = was → (past : List Act) → course ≡ Some past → IsTrue (in_range call (content_of past)) → is × (IsErrOf r faults.Failed → ⊥)
