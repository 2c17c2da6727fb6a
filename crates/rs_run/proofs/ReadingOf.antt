-- Bytes are a source or refused, and in one way: the fault of a schedule goes before a line that isn't played yet.
use Rattle.std.proofs.Common.{◌≡◌, ℕ, ◌+◌, Bool, true, false, cond, ltb, List, [], ◌∷◌, length, Option, Some, None, Result, Ok, Err, IsTrue, ◌⊎◌, refl, sym, ap, ◌∙◌, subst, inl, inr}
use Rattle.std.specs.Prelude.{IfOk}
use Rattle.rs_sched.specs.declared.event.Event.{Event}
use Rattle.rs_sched.specs.declared.fault.Why.{Why}
use Rattle.rs_sched.specs.declared.fault.Why.TheVariants as whys
use Rattle.rs_sched.specs.declared.fault.SchedFault.{SchedFault}
use Rattle.rs_sched.specs.declared.fault.SchedFault.TheVariants as scheds
use Rattle.rs_sched.specs.Lines.{lines_of, without_returns, is_comment}
use Rattle.rs_sched.specs.Reader as sched
use Rattle.rs_sched.specs.Reader.{lines_at, line_at, further, sites_after, events_of}
use Rattle.rs_sched.specs.Reading.{FailsSchedule}
use Rattle.rs_sched.proofs.ScheduleLaws.{events_are, events_again, fault_is}
use Rattle.rs_sched.proofs.FaultLaws.{fault_again}
use Rattle.rs_course.specs.Played.{are_accepted}
use Rattle.rs_run.specs.declared.source.Cause.{Cause}
use Rattle.rs_run.specs.declared.source.Cause.TheVariants as causes
use Rattle.rs_run.specs.declared.source.Refusal.{Refusal}
use Rattle.rs_run.specs.declared.source.SourceFault.{SourceFault}
use Rattle.rs_run.specs.declared.source.SourceFault.TheVariants as faults
use Rattle.rs_run.specs.Refusal.{IsSource, IsRefusal}
use Rattle.rs_run.specs.SourceReader.{GivesSource, FailsSource, Read, refused, source_of, judged, reading_of, of_sched}
use Rattle.rs_run.proofs.RefusalLaws as lines
use Rattle.rs_run.proofs.RefusalLaws.{Stops, source_again, later_line_again, lacks_again}

-- ---- a fault of the lines names a line

never : (lines : List (List ℕ)) (sites : Option ℕ) (before : ℕ) → lines_at sites before lines ≡ Err scheds.NoMemory → ⊥
never [] None before e = absurd cc
never [] (Some sites) before e = absurd cc
never (line ∷ lines) sites before e = by_comment (is_comment (without_returns line)) (never lines) e
  where
    with_err : (event : Event) (read : Result (List Event) SchedFault) → sched.with_events (event ∷ []) read ≡ Err scheds.NoMemory → read ≡ Err scheds.NoMemory
    with_err event (Err other) e = e
    with_err event (Ok others) e = absurd cc

    by_line : (read : Result Event Why) → further (before + 1) read (λ event. lines_at (sites_after sites event) (before + 1) lines) ≡ Err scheds.NoMemory
        → ((sites : Option ℕ) (before : ℕ) → lines_at sites before lines ≡ Err scheds.NoMemory → ⊥) → ⊥
    by_line (Err other) e others = absurd cc
    by_line (Ok event) e others = others (sites_after sites event) (before + 1) (with_err event (lines_at (sites_after sites event) (before + 1) lines) e)

    by_comment : (comment : Bool) → ((sites : Option ℕ) (before : ℕ) → lines_at sites before lines ≡ Err scheds.NoMemory → ⊥)
        → cond comment (lines_at sites (before + 1) lines) (further (before + 1) (line_at sites (without_returns line)) (λ event. lines_at (sites_after sites event) (before + 1) lines)) ≡ Err scheds.NoMemory → ⊥
    by_comment true others e = others sites (before + 1) e
    by_comment false others e = by_line (line_at sites (without_returns line)) e others

never_bytes : (bytes : List ℕ) → events_of bytes ≡ Err scheds.NoMemory → ⊥
unfolding events_of
never_bytes bytes e = by_length (ltb 16777216 (length bytes)) e
  where
    by_length : (long : Bool) → cond long (Err (scheds.BadLine 0 whys.TooLong)) (lines_at None 0 (lines_of bytes)) ≡ Err scheds.NoMemory → ⊥
    by_length true e = absurd cc
    by_length false e = never (lines_of bytes) None 0 e

-- ---- what is so is read

-- what is read, by what the schedule gives
by_events : (bytes : List ℕ) (events : Result (List Event) SchedFault) → events_of bytes ≡ events → reading_of bytes ≡ judged events (source_of bytes)
unfolding reading_of
by_events bytes events e = ap (λ (r : Result (List Event) SchedFault). judged r (source_of bytes)) e

pub reading_again : (bytes : List ℕ) (given : List Event) → IsSource bytes given → reading_of bytes ≡ Ok given
reading_again bytes given h = by_events bytes (Ok given) (events_again bytes given h.schedule) ∙ source_again bytes given h

stops_again : (bytes : List ℕ) (at : ℕ) → Stops bytes at causes.Later → source_of bytes ≡ refused at causes.Later
stops_again bytes at (inl line) = later_line_again bytes at line
stops_again bytes at (inr lacking) = lacks_again bytes at lacking

pub refusal_again : (bytes : List ℕ) (at : ℕ) (cause : Cause) → IsRefusal bytes at cause → reading_of bytes ≡ refused at cause
refusal_again bytes at (causes.Bad why) h = by_events bytes (Err (scheds.BadLine at why)) (fault_again bytes at why h)
refusal_again bytes at causes.Later h = by_events bytes (Ok h.0.0) (events_again bytes h.0.0 h.0.1) ∙ stops_again bytes at h.1

-- ---- what is read is so

data Read_of (bytes : List ℕ) : Type 0 where
  source : (given : List Event) → reading_of bytes ≡ Ok given → IsSource bytes given → Read_of bytes
  refusal : (at : ℕ) (cause : Cause) → reading_of bytes ≡ refused at cause → IsRefusal bytes at cause → Read_of bytes

read_of : (bytes : List ℕ) → Read_of bytes
read_of bytes = by_read (events_of bytes) refl
  where
    by_cause : (given : List Event) → events_of bytes ≡ Ok given → (at : ℕ) (cause : Cause) → source_of bytes ≡ refused at cause → Stops bytes at cause → Read_of bytes
    by_cause given e at (causes.Bad why) is h = let f = sym e ∙ fault_again bytes at why h in absurd cc
    by_cause given e at causes.Later is h = refusal at causes.Later (by_events bytes (Ok given) e ∙ is) ((given, events_are bytes given e), h)

    by_lines : (given : List Event) → events_of bytes ≡ Ok given → lines.Result_of bytes → Read_of bytes
    by_lines given e (lines.source others is h) = source others (by_events bytes (Ok given) e ∙ is) h
    by_lines given e (lines.refusal at cause is h) = by_cause given e at cause is h

    by_read : (events : Result (List Event) SchedFault) → events_of bytes ≡ events → Read_of bytes
    by_read (Ok given) e = by_lines given e (lines.result_of bytes)
    by_read (Err (scheds.BadLine at why)) e = refusal at (causes.Bad why) (by_events bytes (Err (scheds.BadLine at why)) e) (fault_is bytes at why e)
    by_read (Err scheds.NoMemory) e = absurd (never_bytes bytes e)

abbrev played_as : List Event → Read
played_as given = Ok given

abbrev refused_as : Refusal → Read
refused_as r = Err r

same_events : (given others : List Event) → played_as given ≡ played_as others → given ≡ others
same_events given others e = cc

same_refusal : (r s : Refusal) → refused_as r ≡ refused_as s → r ≡ s
same_refusal r s e = cc

not_both : (given : List Event) (r : Refusal) → played_as given ≡ refused_as r → ⊥
not_both given r e = absurd cc

source_is : (bytes : List ℕ) (given : List Event) → reading_of bytes ≡ Ok given → IsSource bytes given
source_is bytes given e = by_result (read_of bytes)
  where
    by_result : Read_of bytes → IsSource bytes given
    by_result (source others is h) = let same : others ≡ given = same_events others given (sym is ∙ e) in subst (IsSource bytes) same h
    by_result (refusal at cause is h) = absurd (not_both given (record { line = at; cause = cause }) (sym e ∙ is))

refusal_is : (bytes : List ℕ) (refusal : Refusal) → reading_of bytes ≡ Err refusal → IsRefusal bytes refusal.line refusal.cause
refusal_is bytes r e = by_result (read_of bytes)
  where
    by_result : Read_of bytes → IsRefusal bytes r.line r.cause
    by_result (source given is h) = absurd (not_both given r (sym is ∙ e))
    by_result (refusal at cause is h) =
        let same = same_refusal (record { line = at; cause = cause }) r (sym is ∙ e) in
        subst (λ (f : Refusal). IsRefusal bytes f.line f.cause) same h

-- ---- laws

pub source_is_played : (bytes : List ℕ) (given : List Event) (at : ℕ) (cause : Cause) → IsSource bytes given → IsRefusal bytes at cause → ⊥
source_is_played bytes given at cause h k = not_both given (record { line = at; cause = cause }) (sym (reading_again bytes given h) ∙ refusal_again bytes at cause k)

pub refused_once : (bytes : List ℕ) (at other : ℕ) (cause also : Cause) → IsRefusal bytes at cause → IsRefusal bytes other also → (at ≡ other) × (cause ≡ also)
refused_once bytes at other cause also h k =
    let same = same_refusal (record { line = at; cause = cause }) (record { line = other; cause = also }) (sym (refusal_again bytes at cause h) ∙ refusal_again bytes other also k) in
    (ap (λ (r : Refusal). r.line) same, ap (λ (r : Refusal). r.cause) same)

pub played_or_refused : (bytes : List ℕ) → ((given : List Event) × IsSource bytes given) ⊎ ((at : ℕ) × (cause : Cause) × IsRefusal bytes at cause)
played_or_refused bytes = by_result (read_of bytes)
  where
    by_result : Read_of bytes → ((given : List Event) × IsSource bytes given) ⊎ ((at : ℕ) × (cause : Cause) × IsRefusal bytes at cause)
    by_result (source given is h) = inl (given, h)
    by_result (refusal at cause is h) = inr (at, cause, h)

-- ---- the clauses of the calls

pub found_source : (bytes : List ℕ) (result : Result (List Event) SourceFault) → GivesSource result (reading_of bytes) → IfOk result (λ given. IsSource bytes given)
found_source bytes (Ok given) e = source_is bytes given e
found_source bytes (Err fault) e = tt

pub refused_source : (bytes : List ℕ) (result : Result (List Event) SourceFault) → GivesSource result (reading_of bytes) → (refusal : Refusal) → result ≡ Err (faults.Refused refusal) → IsRefusal bytes refusal.line refusal.cause
refused_source bytes result e r is = refusal_is bytes r (subst (λ (r : Result (List Event) SourceFault). GivesSource r (reading_of bytes)) is e)

-- the bytes are no schedule
pub bad_reading : (bytes : List ℕ) (fault : SchedFault) → FailsSchedule fault (events_of bytes) → FailsSource (of_sched fault) (reading_of bytes)
bad_reading bytes (scheds.BadLine line why) e = by_events bytes (Err (scheds.BadLine line why)) e
bad_reading bytes scheds.NoMemory e = tt

-- they are a schedule, and all of its events are played
pub played_reading : (bytes : List ℕ) (given : List Event) → events_of bytes ≡ Ok given → IsTrue (are_accepted false given) → reading_of bytes ≡ Ok given
played_reading bytes given e accepted = reading_again bytes given (record { schedule = events_are bytes given e; accepted = accepted })

-- they are a schedule
pub lines_reading : (bytes : List ℕ) (given : List Event) (result : Result (List Event) SourceFault) → events_of bytes ≡ Ok given → GivesSource result (source_of bytes) → GivesSource result (reading_of bytes)
lines_reading bytes given result e gives = subst (GivesSource result) (sym (by_events bytes (Ok given) e)) gives
