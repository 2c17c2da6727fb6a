-- The reader of schedules: of a line, field by field, and of all lines.
use Rattle.std.specs.Prelude.{ℕ, zero, suc, ◌+◌, Bool, true, false, ◌&&◌, not, ◌==◌, nat_le, nat_lt, List, [], ◌∷◌, ◌++◌, length, take, drop, Option, Some, None, Result, Ok, Err, codes, bytes_eq, if◌then◌else◌}
use Rattle.std.specs.List.{prefix_len}
pub use Rattle.std.specs.Str.{is_utf8}
use Rattle.rs_base.specs.Ident.{is_ident}
use Rattle.rs_base.specs.Reading.{◌>>=◌}
use Rattle.rs_base.specs.declared.txn.Origin.{Origin}
use Rattle.rs_sched.specs.declared.event.Event.{Event}
use Rattle.rs_sched.specs.declared.event.Event.TheVariants as events
use Rattle.rs_sched.specs.declared.fault.Why.{Why}
use Rattle.rs_sched.specs.declared.fault.Why.TheVariants as whys
use Rattle.rs_sched.specs.declared.fault.SchedFault.{SchedFault}
use Rattle.rs_sched.specs.declared.fault.SchedFault.TheVariants as faults
use Rattle.rs_sched.specs.declared.word.Word.{Word}
use Rattle.rs_sched.specs.declared.word.Word.TheVariants as words
pub use Rattle.rs_sched.specs.Lines.{lines_of, without_returns, is_comment}
use Rattle.rs_sched.specs.Numbers.{number_of, noise_of}

-- ---- words

abbrev pub later_word_of : List ℕ → Option Word
later_word_of word =
    if bytes_eq word (codes "stop") then Some words.Stop
    else (if bytes_eq word (codes "arm") then Some words.Arm
    else (if bytes_eq word (codes "restart") then Some words.Restart
    else (if bytes_eq word (codes "settle") then Some words.Settle
    else (if bytes_eq word (codes "noise") then Some words.Noise
    else None))))

abbrev pub word_of : List ℕ → Option Word
word_of word =
    if bytes_eq word (codes "sites") then Some words.Sites
    else (if bytes_eq word (codes "ask") then Some words.Ask
    else (if bytes_eq word (codes "deliver") then Some words.Deliver
    else (if bytes_eq word (codes "lose") then Some words.Lose
    else (if bytes_eq word (codes "tick") then Some words.Tick
    else later_word_of word))))

-- ---- fields

-- not the space between fields
abbrev pub is_field_byte : ℕ → Bool
is_field_byte b = not (b == 32)

abbrev pub field_len : List ℕ → ℕ
field_len bytes = prefix_len is_field_byte bytes

-- the bytes after a space
abbrev pub space_at : List ℕ → Option (List ℕ)
space_at [] = None
space_at (b ∷ bytes) = if b == 32 then Some bytes else None

abbrev pub is_end : List ℕ → Bool
is_end [] = true
is_end (b ∷ bytes) = false

-- the end of the line
abbrev pub end_at : List ℕ → Option (List ℕ)
end_at [] = Some []
end_at (b ∷ bytes) = None

-- a space and a number from `low` to `high`
unfoldable pub number_at : ℕ → ℕ → List ℕ → Option (ℕ × List ℕ)
number_at low high bytes = do
  field ← space_at bytes
  number ← number_of (take (field_len field) field)
  if nat_le low number && nat_le number high then Some (number, drop (field_len field) field) else None

unfoldable pub user_at : List ℕ → Option (List ℕ × List ℕ)
user_at bytes = do
  field ← space_at bytes
  if is_ident (take (field_len field) field) then Some (take (field_len field) field, drop (field_len field) field) else None

unfoldable pub noise_bytes_at : List ℕ → Option (List ℕ × List ℕ)
noise_bytes_at bytes = do
  field ← space_at bytes
  noise ← noise_of (take (field_len field) field)
  Some (noise, drop (field_len field) field)

abbrev pub nth : ℕ → List ℕ → ℕ
nth n [] = 0
nth zero (x ∷ xs) = x
nth (suc n) (x ∷ xs) = nth n xs

-- numbers within these limits, and then the end
abbrev pub numbers_at : List (ℕ × ℕ) → (List ℕ → Event) → List ℕ → Option Event
numbers_at [] make bytes = end_at bytes >>= λ end. Some (make [])
numbers_at (limit ∷ limits) make bytes = number_at limit.0 limit.1 bytes >>= λ x. numbers_at limits (λ others. make (x.0 ∷ others)) x.1

-- ---- events, after their keywords

-- 2 ^ 64 - 1
abbrev pub most : ℕ
most = 18446744073709551615

unfoldable pub sites_at : List ℕ → Option Event
sites_at bytes = numbers_at ((1, 16) ∷ []) (λ ns. events.Sites (nth 0 ns)) bytes

unfoldable pub deliver_at : List ℕ → Option Event
deliver_at bytes = numbers_at ((0, most) ∷ []) (λ ns. events.Deliver (nth 0 ns)) bytes

unfoldable pub lose_at : List ℕ → Option Event
lose_at bytes = numbers_at ((0, most) ∷ []) (λ ns. events.Lose (nth 0 ns)) bytes

unfoldable pub tick_at : ℕ → List ℕ → Option Event
tick_at sites bytes = numbers_at ((1, sites) ∷ (1, 1000) ∷ []) (λ ns. events.Tick (nth 0 ns) (nth 1 ns)) bytes

unfoldable pub stop_at : ℕ → List ℕ → Option Event
stop_at sites bytes = numbers_at ((1, sites) ∷ (0, most) ∷ (0, most) ∷ []) (λ ns. events.Stop (nth 0 ns) (nth 1 ns) (nth 2 ns)) bytes

unfoldable pub arm_at : ℕ → List ℕ → Option Event
arm_at sites bytes = numbers_at ((1, sites) ∷ (1, most) ∷ (0, most) ∷ (0, most) ∷ []) (λ ns. events.Arm (nth 0 ns) (nth 1 ns) (nth 2 ns) (nth 3 ns)) bytes

unfoldable pub restart_at : ℕ → List ℕ → Option Event
restart_at sites bytes = numbers_at ((1, sites) ∷ []) (λ ns. events.Restart (nth 0 ns)) bytes

unfoldable pub settle_at : List ℕ → Option Event
settle_at bytes = if is_end bytes then Some (events.Settle None) else numbers_at ((0, most) ∷ []) (λ ns. events.Settle (Some (nth 0 ns))) bytes

unfoldable pub noise_at : ℕ → List ℕ → Option Event
noise_at sites bytes = do
  site ← number_at 1 sites bytes
  noise ← noise_bytes_at site.1
  end ← end_at noise.1
  Some (events.Noise site.0 noise.0)

-- an ask up to its text
unfoldable pub origin_at : ℕ → List ℕ → Option (Origin × List ℕ)
origin_at sites bytes = do
  site ← number_at 1 sites bytes
  user ← user_at site.1
  epoch ← number_at 0 4294967295 user.1
  number ← number_at 0 most epoch.1
  text ← space_at number.1
  Some (record { site = site.0; user = user.0; epoch = epoch.0; number = number.0 }, text)

-- ---- a line

abbrev pub of_fields : Option Event → Result Event Why
of_fields None = Err whys.BadFields
of_fields (Some event) = Ok event

abbrev pub of_text : Option (Origin × List ℕ) → Result Event Why
of_text None = Err whys.BadFields
of_text (Some ask) = if is_utf8 ask.1 then (if nat_le (length ask.1) 8192 then Ok (events.Ask ask.0 ask.1) else Err whys.TooLong) else Err whys.NotUtf8

abbrev pub event_of : ℕ → Option Word → List ℕ → Result Event Why
event_of sites None rest = Err whys.UnknownWord
event_of sites (Some words.Sites) rest = Err whys.SitesAgain
event_of sites (Some words.Ask) rest = of_text (origin_at sites rest)
event_of sites (Some words.Deliver) rest = of_fields (deliver_at rest)
event_of sites (Some words.Lose) rest = of_fields (lose_at rest)
event_of sites (Some words.Tick) rest = of_fields (tick_at sites rest)
event_of sites (Some words.Stop) rest = of_fields (stop_at sites rest)
event_of sites (Some words.Arm) rest = of_fields (arm_at sites rest)
event_of sites (Some words.Restart) rest = of_fields (restart_at sites rest)
event_of sites (Some words.Settle) rest = of_fields (settle_at rest)
event_of sites (Some words.Noise) rest = of_fields (noise_at sites rest)

-- a line after the sites line
unfoldable pub later_line : ℕ → List ℕ → Result Event Why
later_line sites line = event_of sites (word_of (take (field_len line) line)) (drop (field_len line) line)

abbrev pub of_sites : Option Event → Result Event Why
of_sites None = Err whys.NoSites
of_sites (Some event) = Ok event

-- the sites line
unfoldable pub first_line : List ℕ → Result Event Why
first_line line = if bytes_eq (take (field_len line) line) (codes "sites") then of_sites (sites_at (drop (field_len line) line)) else Err whys.NoSites

abbrev pub line_at : Option ℕ → List ℕ → Result Event Why
line_at None line = first_line line
line_at (Some sites) line = later_line sites line

-- ---- the lines

-- the number of sites after this event
abbrev pub sites_after : Option ℕ → Event → Option ℕ
sites_after (Some sites) event = Some sites
sites_after None (events.Sites n) = Some n
sites_after None (events.Ask origin text) = None
sites_after None (events.Deliver k) = None
sites_after None (events.Lose k) = None
sites_after None (events.Tick site n) = None
sites_after None (events.Stop site k j) = None
sites_after None (events.Arm site c k j) = None
sites_after None (events.Restart site) = None
sites_after None (events.Settle count) = None
sites_after None (events.Noise site bytes) = None

-- events prepended to those still to be read
abbrev pub with_events : List Event → Result (List Event) SchedFault → Result (List Event) SchedFault
with_events prefix (Ok others) = Ok (prefix ++ others)
with_events prefix (Err fault) = Err fault

-- the event of line `at`, and those of the lines after it
abbrev pub further : ℕ → Result Event Why → (Event → Result (List Event) SchedFault) → Result (List Event) SchedFault
further at (Ok event) others = with_events (event ∷ []) (others event)
further at (Err why) others = Err (faults.BadLine at why)

-- the end, after this number of lines
abbrev pub at_end : Option ℕ → ℕ → Result (List Event) SchedFault
at_end None before = Err (faults.BadLine (before + 1) whys.NoSites)
at_end (Some sites) before = Ok []

-- the events of lines, after this number of lines
abbrev pub lines_at : Option ℕ → ℕ → List (List ℕ) → Result (List Event) SchedFault
lines_at sites before [] = at_end sites before
lines_at sites before (line ∷ lines) =
    if is_comment (without_returns line) then lines_at sites (before + 1) lines
    else further (before + 1) (line_at sites (without_returns line)) (λ event. lines_at (sites_after sites event) (before + 1) lines)

unfoldable pub events_of : List ℕ → Result (List Event) SchedFault
events_of bytes = if nat_lt 16777216 (length bytes) then Err (faults.BadLine 0 whys.TooLong) else lines_at None 0 (lines_of bytes)
