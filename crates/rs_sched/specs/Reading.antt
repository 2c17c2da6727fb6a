-- A function's result agrees with the reader's. On out of memory nothing is claimed of the result.
use Rattle.std.specs.Prelude.{◌≡◌, ℕ, List, Result, Ok, Err}
use Rattle.rs_base.specs.declared.fault.ReadFault.{ReadFault}
use Rattle.rs_base.specs.declared.fault.ReadFault.TheVariants as reads
use Rattle.rs_sched.specs.declared.event.Event.{Event}
use Rattle.rs_sched.specs.declared.fault.Why.{Why}
use Rattle.rs_sched.specs.declared.fault.Why.TheVariants as whys
use Rattle.rs_sched.specs.declared.fault.SchedFault.{SchedFault}
use Rattle.rs_sched.specs.declared.fault.SchedFault.TheVariants as faults
use Rattle.rs_sched.specs.declared.fault.LineFault.{LineFault}
use Rattle.rs_sched.specs.declared.fault.LineFault.TheVariants as lines
use Rattle.rs_sched.specs.Faults.{IsFault}

-- a malformed field makes the fields bad
abbrev pub of_read : ReadFault → LineFault
of_read reads.Malformed = lines.Bad whys.BadFields
of_read reads.NoMemory = lines.NoMemory

abbrev pub FailsLine : {X : Type 0} → LineFault → Result X Why → Type 0
FailsLine (lines.Bad why) read = read ≡ Err why
FailsLine lines.NoMemory read = Unit {0}

abbrev pub GivesLine : {X : Type 0} → Result X LineFault → Result X Why → Type 0
GivesLine (Ok x) read = read ≡ Ok x
GivesLine (Err fault) read = FailsLine fault read

abbrev pub FailsSchedule : SchedFault → Result (List Event) SchedFault → Type 0
FailsSchedule (faults.BadLine line why) read = read ≡ Err (faults.BadLine line why)
FailsSchedule faults.NoMemory read = Unit {0}

abbrev pub GivesSchedule : Result (List Event) SchedFault → Result (List Event) SchedFault → Type 0
GivesSchedule (Ok events) read = read ≡ Ok events
GivesSchedule (Err fault) read = FailsSchedule fault read

abbrev pub ReportsFault : List ℕ → SchedFault → Type 0
ReportsFault bytes (faults.BadLine line why) = IsFault bytes line why
ReportsFault bytes faults.NoMemory = Unit {0}
