-- The laws of schedules.
use Rattle.std.specs.Prelude.{◌≡◌, ℕ, ◌≤◌, List, length}
use Rattle.rs_sched.specs.declared.fault.Why.{Why}
use Rattle.rs_sched.specs.Faults.{IsFault}
use Rattle.rs_sched.specs.declared.event.Event.{Event}
use Rattle.rs_sched.specs.Schedule.{IsValid, IsSchedule, text_of}

-- the printed lines of a valid list are a schedule of that list
abbrev pub PrintedIsSchedule : Type 0
PrintedIsSchedule = (given : List Event) → IsValid given → length (text_of given) ≤ 16777216 → IsSchedule (text_of given) given

-- bytes are a schedule of at most one list
abbrev pub ScheduleOnce : Type 0
ScheduleOnce = (bytes : List ℕ) (given others : List Event) → IsSchedule bytes given → IsSchedule bytes others → given ≡ others

-- bytes have at most one fault: a line and its cause
abbrev pub FaultOnce : Type 0
FaultOnce = (bytes : List ℕ) (line other : ℕ) (why cause : Why) → IsFault bytes line why → IsFault bytes other cause → (line ≡ other) × (why ≡ cause)

-- a schedule has no fault
abbrev pub ScheduleHasNoFault : Type 0
ScheduleHasNoFault = (bytes : List ℕ) (given : List Event) (line : ℕ) (why : Why) → IsSchedule bytes given → IsFault bytes line why → ⊥
