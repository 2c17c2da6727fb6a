-- Reading a source: its events, or the line at which it is refused.
use Rattle.std.specs.Prelude.{◌≡◌, ℕ, ◌+◌, Bool, true, false, nat_lt, List, [], ◌∷◌, ◌++◌, length, Option, Some, None, Result, Ok, Err, if◌then◌else◌}
use Rattle.rs_sched.specs.declared.event.Event.{Event}
use Rattle.rs_sched.specs.declared.fault.Why.{Why}
use Rattle.rs_sched.specs.declared.fault.Why.TheVariants as whys
use Rattle.rs_sched.specs.declared.fault.SchedFault.{SchedFault}
use Rattle.rs_sched.specs.declared.fault.SchedFault.TheVariants as scheds
pub use Rattle.rs_sched.specs.Lines.{lines_of, without_returns, is_comment}
use Rattle.rs_sched.specs.Reader.{line_at, sites_after, events_of}
pub use Rattle.rs_course.specs.Played.{may_come, is_open_after, are_accepted}
use Rattle.rs_run.specs.declared.source.Cause.{Cause}
use Rattle.rs_run.specs.declared.source.Cause.TheVariants as causes
use Rattle.rs_run.specs.declared.source.Refusal.{Refusal}
use Rattle.rs_run.specs.declared.source.SourceFault.{SourceFault}
use Rattle.rs_run.specs.declared.source.SourceFault.TheVariants as faults

abbrev pub Read : Type 0
Read = Result (List Event) Refusal

abbrev pub refused : ℕ → Cause → Read
refused line cause = Err (record { line = line; cause = cause })

-- events before those that are still read
abbrev pub with_events : List Event → Read → Read
with_events prefix (Ok others) = Ok (prefix ++ others)
with_events prefix (Err refusal) = Err refusal

-- the result at the end, after a sites line
abbrev pub ended : Bool → ℕ → Read
ended true before = refused (before + 1) causes.Later
ended false before = Ok []

-- the result at the end, after this number of lines
abbrev pub end_by : Bool → Option ℕ → ℕ → Read
end_by unsettled None before = refused (before + 1) (causes.Bad whys.NoSites)
end_by unsettled (Some sites) before = ended unsettled before

-- the event of this line, and those after it
abbrev pub further_by : Bool → ℕ → Result Event Why → (Event → Read) → Read
further_by unsettled line (Err why) others = refused line (causes.Bad why)
further_by unsettled line (Ok event) others = if may_come unsettled event then with_events (event ∷ []) (others event)
    else refused line causes.Later

-- the events of lines after this number of lines
abbrev pub source_at : Bool → Option ℕ → ℕ → List (List ℕ) → Read
source_at unsettled sites before [] = end_by unsettled sites before
source_at unsettled sites before (line ∷ lines) =
    if is_comment (without_returns line) then source_at unsettled sites (before + 1) lines
    else further_by unsettled (before + 1) (line_at sites (without_returns line))
    (λ event. source_at (is_open_after unsettled event) (sites_after sites event) (before + 1) lines)

unfoldable pub source_of : List ℕ → Read
source_of bytes = if nat_lt 16777216 (length bytes) then refused 0 (causes.Bad whys.TooLong)
    else source_at false None 0 (lines_of bytes)

-- the fault of the schedule, if there is one; else what is read of its lines
abbrev pub judged : Result (List Event) SchedFault → Read → Read
judged (Err (scheds.BadLine line why)) read = refused line (causes.Bad why)
judged (Err scheds.NoMemory) read = read
judged (Ok given) read = read

unfoldable pub reading_of : List ℕ → Read
reading_of bytes = judged (events_of bytes) (source_of bytes)

---- a function's result, against that of reading

abbrev pub of_sched : SchedFault → SourceFault
of_sched (scheds.BadLine line why) = faults.Refused (record { line = line; cause = causes.Bad why })
of_sched scheds.NoMemory = faults.NoMemory

-- Out of memory says nothing of what was read.
abbrev pub FailsSource : SourceFault → Read → Type 0
FailsSource (faults.Refused refusal) read = read ≡ Err refusal
FailsSource faults.NoMemory read = Unit {0}

abbrev pub GivesSource : Result (List Event) SourceFault → Read → Type 0
GivesSource (Ok given) read = read ≡ Ok given
GivesSource (Err fault) read = FailsSource fault read
