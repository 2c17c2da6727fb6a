-- Which bytes are a source that is played, and which line of other bytes is refused, and why. A wrong line goes before
-- every line that is right and not played yet.
use Rattle.std.specs.Prelude.{◌≡◌, ℕ, ◌+◌, ◌≤◌, Bool, true, false, ◌&&◌, List, [], ◌∷◌, ◌++◌, length, decimal, codes, IsTrue, ◌⊎◌}
use Rattle.rs_sched.specs.declared.event.Event.{Event}
use Rattle.rs_sched.specs.Lines.{lines_of, without_returns}
use Rattle.rs_sched.specs.Encoding.{line_of}
use Rattle.rs_sched.specs.Schedule.{AreLines, IsValid, IsSchedule}
use Rattle.rs_sched.specs.Faults.{text_of, IsFault}
use Rattle.rs_course.specs.Played.{may_come, is_open_after, are_accepted}
use Rattle.rs_run.specs.declared.source.Cause.{Cause}
use Rattle.rs_run.specs.declared.source.Cause.TheVariants as causes

-- the bytes are a schedule of these events, and all of them are played
pub record IsSource (bytes : List ℕ) (given : List Event) : Type 0 where
  pub schedule : IsSchedule bytes given
  pub accepted : IsTrue (are_accepted false given)

-- ---- events that may not come

-- each of the events may come when it does, where `unsettled` says that an ask before them has no settle yet
abbrev pub may_all_come : Bool → List Event → Bool
may_all_come unsettled [] = true
may_all_come unsettled (event ∷ others) = may_come unsettled event && may_all_come (is_open_after unsettled event) others

-- whether an ask has no settle after it, after these events
abbrev pub is_open_after_all : Bool → List Event → Bool
is_open_after_all unsettled [] = unsettled
is_open_after_all unsettled (event ∷ others) = is_open_after_all (is_open_after unsettled event) others

-- The line gives an event that may not come: the lines before it give events that may, and it is right after them.
pub record IsLaterLine (bytes : List ℕ) (at : ℕ) : Type 0 where
  pub short : length bytes ≤ 16777216
  pub before : List (List ℕ)
  pub line : List ℕ
  pub suffix : List (List ℕ)
  pub separated : lines_of bytes ≡ before ++ line ∷ suffix
  pub numbered : at ≡ length before + 1
  pub given : List Event
  pub event : Event
  pub given_lines : AreLines before given
  pub event_line : without_returns line ≡ line_of event
  pub right : IsValid (given ++ event ∷ [])
  pub all_may : IsTrue (may_all_come false given)
  pub may_not : may_come (is_open_after_all false given) event ≡ false

-- All lines give events that may come, and no settle follows the last ask: the line after the last is refused.
pub record LacksSettle (bytes : List ℕ) (at : ℕ) : Type 0 where
  pub given : List Event
  pub schedule : IsSchedule bytes given
  pub all_may : IsTrue (may_all_come false given)
  pub unsettled : IsTrue (is_open_after_all false given)
  pub numbered : at ≡ length (lines_of bytes) + 1

-- ---- refusals

-- The cause of a refusal: the fault of bytes that are no schedule; of a schedule, the first line that isn't played yet.
abbrev pub IsRefusal : List ℕ → ℕ → Cause → Type 0
IsRefusal bytes line (causes.Bad why) = IsFault bytes line why
IsRefusal bytes line causes.Later = ((given : List Event) × IsSchedule bytes given)
    × (IsLaterLine bytes line ⊎ LacksSettle bytes line)

abbrev pub cause_text : Cause → List ℕ
cause_text (causes.Bad why) = text_of why
cause_text causes.Later = codes "later"

-- its text
abbrev pub refusal_text : ℕ → Cause → List ℕ
refusal_text line cause = codes "line " ++ decimal line ++ codes " " ++ cause_text cause ++ codes "\n"

-- ---- laws

-- a source isn't refused
abbrev pub SourceIsPlayed : Type 0
SourceIsPlayed = (bytes : List ℕ) (given : List Event) (line : ℕ) (cause : Cause) → IsSource bytes given
    → IsRefusal bytes line cause → ⊥

-- bytes have one refusal
abbrev pub RefusedOnce : Type 0
RefusedOnce = (bytes : List ℕ) (line other : ℕ) (cause also : Cause) → IsRefusal bytes line cause → IsRefusal bytes other also
    → (line ≡ other) × (cause ≡ also)

-- bytes are a source or refused
abbrev pub PlayedOrRefused : Type 0
PlayedOrRefused = (bytes : List ℕ)
    → ((given : List Event) × IsSource bytes given) ⊎ ((line : ℕ) × (cause : Cause) × IsRefusal bytes line cause)
