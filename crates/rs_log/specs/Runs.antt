-- Device calls that are made in order, up to one that fails or to want of memory.
use Rattle.std.specs.Prelude.{◌≡◌, ◌⊎◌, ⊤, List, [], ◌∷◌, ◌++◌, Some, IfSome, Result, MatchResult, IsTrue, IsErrOf}
use Rattle.rs_base.specs.declared.fault.Fault.{Fault}
use Rattle.rs_base.specs.declared.fault.Fault.TheVariants as faults
use Rattle.rs_disk.specs.declared.call.Call.{Call}
use Rattle.rs_disk.specs.declared.call.State.{State}
use Rattle.rs_disk.specs.declared.call.Act.{Act}
use Rattle.rs_disk.specs.declared.call.Act.TheVariants as happened
use Rattle.rs_disk.specs.Disk.{content, in_range, done, state_of}
use Rattle.rs_disk.specs.Answers.{Course, IsFailure}

-- these acts are the calls, each in range and done
abbrev pub AreDone : State → List Call → List Act → Type 0
AreDone s [] acts = acts ≡ []
AreDone s (call ∷ calls) [] = ⊥
AreDone s (call ∷ calls) (act ∷ acts) = (act ≡ happened.Done call) × IsTrue (in_range call (content s)) × AreDone (done call s) calls acts

-- these acts are the first of the calls, each in range and done, and then one that failed
abbrev pub OneFailed : State → List Call → List Act → Type 0
OneFailed s [] acts = ⊥
OneFailed s (call ∷ calls) [] = ⊥
OneFailed s (call ∷ calls) (act ∷ acts) = (IsFailure call s act × (acts ≡ [])) ⊎ ((act ≡ happened.Done call) × IsTrue (in_range call (content s)) × OneFailed (done call s) calls acts)

-- these acts are the first of the calls, each in range and done
abbrev pub SomeDone : State → List Call → List Act → Type 0
SomeDone s calls [] = ⊤
SomeDone s [] (act ∷ acts) = ⊥
SomeDone s (call ∷ calls) (act ∷ acts) = (act ≡ happened.Done call) × IsTrue (in_range call (content s)) × SomeDone (done call s) calls acts

abbrev pub RunsTo : Fault → State → List Call → List Act → Type 0
RunsTo faults.Failed s calls acts = OneFailed s calls acts
RunsTo faults.NoMemory s calls acts = SomeDone s calls acts

abbrev pub RunOf : {X : Type 0} → Result X Fault → State → List Call → List Act → Type 0
RunOf r s calls acts = MatchResult r (λ _. AreDone s calls acts) (λ fault. RunsTo fault s calls acts)

-- the course goes on by a run of these calls
abbrev pub Runs : {X : Type 0} → Result X Fault → List Call → Course → Course → Type 0
Runs r calls old new = IfSome old (λ past. (more : List Act) × (new ≡ Some (past ++ more)) × RunOf r (state_of past) calls more)

-- each of these calls is in range once those before it are done
abbrev pub AllInRange : State → List Call → Type 0
AllInRange s [] = ⊤
AllInRange s (call ∷ calls) = IsTrue (in_range call (content s)) × AllInRange (done call s) calls

-- These calls are in range on a disk that reports its course; a steady disk does them, or runs out of memory, and stays
-- steady.
abbrev pub StaysSteadyBy : {X : Type 0} → Result X Fault → List Call → Course → Type 0 → Type 0 → Type 0
StaysSteadyBy r calls course was is = (past : List Act) → course ≡ Some past → AllInRange (state_of past) calls → was → is × (IsErrOf r faults.Failed → ⊥)
