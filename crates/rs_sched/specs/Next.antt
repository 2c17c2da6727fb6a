-- Reading the next event of a schedule.
use Rattle.std.specs.Prelude.{◌≡◌, ℕ, ◌+◌, Bool, true, false, List, [], ◌∷◌, drop, Option, Some, None, Result, Ok, Err, if◌then◌else◌}
use Rattle.rs_sched.specs.declared.event.Event.{Event}
use Rattle.rs_sched.specs.declared.fault.Why.{Why}
use Rattle.rs_sched.specs.declared.fault.Why.TheVariants as whys
use Rattle.rs_sched.specs.declared.fault.SchedFault.{SchedFault}
use Rattle.rs_sched.specs.declared.fault.SchedFault.TheVariants as faults
use Rattle.rs_sched.specs.Lines.{lines_of, without_returns, is_comment}
use Rattle.rs_sched.specs.Reader.{line_at, sites_after}

-- the state of a reader: the number of sites once it is known, the number of lines read, and the lines still to be read
pub record Left : Type 0 where
  pub sites : Option ℕ
  pub before : ℕ
  pub lines : List (List ℕ)

abbrev pub all_of : List ℕ → Left
all_of bytes = record { sites = None; before = 0; lines = lines_of bytes }

abbrev pub is_none : List (List ℕ) → Bool
is_none [] = true
is_none (line ∷ lines) = false

-- the first line, or an empty one if there is none
abbrev pub first_of : List (List ℕ) → List ℕ
first_of [] = []
first_of (line ∷ lines) = line

-- the state after the first line
abbrev pub after_first : Left → Left
after_first left = record { sites = left.sites; before = left.before + 1; lines = drop 1 left.lines }

-- the event of the line that was just read
abbrev pub event_by : Left → Result Event Why → Result (Option Event × Left) SchedFault
event_by left (Ok event) = Ok (Some event, record { sites = sites_after left.sites event; before = left.before; lines = left.lines })
event_by left (Err why) = Err (faults.BadLine left.before why)

-- no line is left
abbrev pub none_by : Option ℕ → ℕ → Result (Option Event × Left) SchedFault
none_by None before = Err (faults.BadLine (before + 1) whys.NoSites)
none_by (Some sites) before = Ok (None, record { sites = Some sites; before = before; lines = [] })

abbrev pub next_in : Option ℕ → ℕ → List (List ℕ) → Result (Option Event × Left) SchedFault
next_in sites before [] = none_by sites before
next_in sites before (line ∷ lines) =
    if is_comment (without_returns line) then next_in sites (before + 1) lines
    else event_by (record { sites = sites; before = before + 1; lines = lines }) (line_at sites (without_returns line))

-- The next event and the state after it, or the end, or the bad line.
unfoldable pub next_of : Left → Result (Option Event × Left) SchedFault
next_of left = next_in left.sites left.before left.lines

-- the state after the first line that is no comment
abbrev pub passed_in : Option ℕ → ℕ → List (List ℕ) → Left
passed_in sites before [] = record { sites = sites; before = before; lines = [] }
passed_in sites before (line ∷ lines) =
    if is_comment (without_returns line) then passed_in sites (before + 1) lines
    else record { sites = sites; before = before + 1; lines = lines }

-- The state after the next line that is no comment, which is skipped if it is bad.
unfoldable pub passed_of : Left → Left
passed_of left = passed_in left.sites left.before left.lines

abbrev pub FailsNext : SchedFault → Result (Option Event × Left) SchedFault → Type 0
FailsNext (faults.BadLine line why) read = read ≡ Err (faults.BadLine line why)
FailsNext faults.NoMemory read = Unit {0}

-- A function's result and the state after it are those of the reader. On out of memory nothing is claimed of the result.
abbrev pub GivesNext : Result (Option Event) SchedFault → Result (Option Event × Left) SchedFault → Left → Type 0
GivesNext (Ok found) read new = read ≡ Ok (found, new)
GivesNext (Err fault) read new = FailsNext fault read
