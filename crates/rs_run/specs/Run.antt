-- What a run of the program does with its words, its source and its sink.
use Rattle.std.specs.Prelude.{◌≡◌, ℕ, List, [], ◌∷◌, length, map, take, codes, string_bytes, Option, Some, None, IfSome, false, IsTrue, ◌⊎◌}
use Rattle.std.specs.Io.KnownBytes.{Appends, Consumes, IsAtEnd, Keeps}
use Rattle.std.specs.Prelude.{String}
use Rattle.std.specs.declared.alloc.Global.{Global}
use Rattle.rs_stream.specs.Streams.{AppendsPrefix}
use Rattle.rs_sched.specs.declared.event.Event.{Event}
use Rattle.rs_course.specs.declared.report.Report.{Report}
use Rattle.rs_course.specs.Calm.{is_calm}
use Rattle.law_world.specs.Answered.{EachAskIsAnswered}
use Rattle.law_world.specs.Explains.{Explains}
use Rattle.rs_world.specs.ReportText.{printed_report}
use Rattle.rs_run.specs.declared.source.Cause.{Cause}
use Rattle.rs_run.specs.declared.run.Finding.{Finding}
use Rattle.rs_run.specs.declared.run.Finding.TheVariants as findings
use Rattle.rs_run.specs.Refusal.{IsSource, IsRefusal, refusal_text}

-- the one word `replay`
abbrev pub IsReplay : List (String Global) → Type 0
IsReplay words = map string_bytes words ≡ codes "replay" ∷ []

-- the largest number of bytes that a run reads: one more than a source has
abbrev pub most_read : ℕ
most_read = 16777217

-- no source has these bytes
abbrev pub IsNoSource : List ℕ → Type 0
IsNoSource bytes = (given : List Event) → IsSource bytes given → ⊥

-- The text is the report of these bytes: they are a source of events, and the text is that of a report that explains them,
-- and by which each of their asks is answered, if they are calm.
pub record Reports (bytes text : List ℕ) : Type 0 where
  pub given : List Event
  pub is_source : IsSource bytes given
  pub report : Report
  pub explains : Explains given report
  pub answers : IsTrue (is_calm false given) → EachAskIsAnswered given report
  pub prints : text ≡ printed_report report

-- The text names the line at which these bytes are refused, and why.
pub record Refuses (bytes text : List ℕ) : Type 0 where
  pub line : ℕ
  pub cause : Cause
  pub refused : IsRefusal bytes line cause
  pub says : text ≡ refusal_text line cause

-- What has to be written if the words are `replay` and these bytes were read.
abbrev pub OwesReplay : List ℕ → List ℕ → Type 0
OwesReplay bytes text = Reports bytes text ⊎ Refuses bytes text

-- What has to be written by these words over a source with these bytes left, if it reports them.
abbrev pub Owes : List (String Global) → Option (List ℕ) → List ℕ → Type 0
Owes words left text = (IsReplay words × IfSome left (λ bytes. OwesReplay (take most_read bytes) text))
    ⊎ ((IsReplay words → ⊥) × (text ≡ codes "usage\n"))

-- A prefix of what has to be written was written, or nothing.
abbrev pub WritesPrefix : List (String Global) → Option (List ℕ) → Option (List ℕ) → Option (List ℕ) → Type 0
WritesPrefix words left old new = ((text : List ℕ) × Owes words left text × AppendsPrefix old new text) ⊎ Keeps old new

-- The report of the bytes that were left was written.
abbrev pub WritesReport : Option (List ℕ) → Option (List ℕ) → Option (List ℕ) → Type 0
WritesReport left old new = IfSome left (λ bytes. (text : List ℕ) × Reports bytes text × Appends old new text)

-- The text names the line at which the bytes are refused as far as they are read, if the source reports them.
abbrev pub ReadsRefused : Option (List ℕ) → List ℕ → Type 0
ReadsRefused left text = IfSome left (λ bytes. Refuses (take most_read bytes) text)

-- The refusal of the bytes that were left, as far as they are read, was written.
abbrev pub WritesRefusal : Option (List ℕ) → Option (List ℕ) → Option (List ℕ) → Type 0
WritesRefusal left old new = IfSome left (λ bytes. (text : List ℕ) × Refuses (take most_read bytes) text × Appends old new text)

-- The source was read to its end, or as far as a run reads.
pub record IsReadOut (left after : Option (List ℕ)) : Type 0 where
  pub bytes : List ℕ
  pub consumed : Consumes left after bytes
  pub whole : (length bytes ≡ most_read) ⊎ IsAtEnd after

-- The source reports its bytes, and they are a source with some events.
abbrev pub HoldsSource : Option (List ℕ) → Type 0
HoldsSource None = ⊥
HoldsSource (Some bytes) = (given : List Event) × IsSource bytes given

-- The source reports its bytes, and as far as they are read they are no source.
abbrev pub HoldsNoSource : Option (List ℕ) → Type 0
HoldsNoSource None = ⊥
HoldsNoSource (Some bytes) = IsNoSource (take most_read bytes)

-- ---- what was found before anything is written

abbrev pub status_of : Finding → ℕ
status_of findings.Reported = 0
status_of findings.Usage = 1
status_of findings.Refused = 2

-- what has to be written of these bytes
abbrev pub FoundIn : List ℕ → Finding → List ℕ → Type 0
FoundIn bytes findings.Reported text = Reports bytes text
FoundIn bytes findings.Usage text = ⊥
FoundIn bytes findings.Refused text = Refuses bytes text

-- what has to be written by these words, over a source with these bytes left, and after it was read
abbrev pub Finds : List (String Global) → Option (List ℕ) → Option (List ℕ) → Finding → List ℕ → Type 0
Finds words left after findings.Reported text = IsReplay words × IsAtEnd after × IfSome left (λ bytes. Reports bytes text)
Finds words left after findings.Usage text = (IsReplay words → ⊥) × (text ≡ codes "usage\n")
Finds words left after findings.Refused text = IsReplay words × IsReadOut left after × ReadsRefused left text
