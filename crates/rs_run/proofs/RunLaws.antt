-- What a run finds before it writes, and what it has to write.
use Rattle.std.proofs.Common.{◌≡◌, ℕ, ◌<◌, ◌≤◌, ◌⊎◌, inl, inr, List, [], ◌++◌, length, take, Option, Some, None, refl, sym, ap, subst, ◌∙◌, arith}
use Rattle.std.specs.Prelude.{String, IfSome}
use Rattle.std.specs.Io.KnownBytes.{Appends, Consumes, IsAtEnd}
use Rattle.std.specs.declared.alloc.Global.{Global}
use Rattle.std.proofs.lemmas.List.{take_all, take_at, append-nil}
use Rattle.rs_stream.specs.Streams.{AppendsPrefix}
use Rattle.rs_sched.specs.declared.event.Event.{Event}
use Rattle.rs_site.specs.Course.{course}
use Rattle.rs_site.specs.Report.{report_of}
use Rattle.law_world.proofs.Answering.{answers}
use Rattle.law_world.proofs.Explaining.{explains}
use Rattle.rs_world.specs.ReportText.{printed_report}
use Rattle.rs_run.specs.declared.run.Finding.{Finding}
use Rattle.rs_run.specs.declared.run.Finding.TheVariants as findings
use Rattle.rs_run.specs.Refusal.{IsSource}
use Rattle.rs_run.specs.Run.{IsReplay, most_read, IsNoSource, Reports, Refuses, OwesReplay, Owes, WritesPrefix, ReadsRefused, WritesRefusal, IsReadOut, HoldsSource, HoldsNoSource, status_of, FoundIn, Finds}
use Rattle.rs_run.proofs.FewEvents.{few_events}
use Rattle.rs_run.proofs.ReadingOf.{source_is_played}

-- ---- from bytes to the report

-- the text is the report of the events that were read
pub reported : (bytes text : List ℕ) (given : List Event) → IsSource bytes given → text ≡ printed_report (report_of (course given)) → Reports bytes text
reported bytes text given source printed = record {
  given = given;
  is_source = source;
  report = report_of (course given);
  explains = explains given source.schedule.valid source.accepted;
  answers = λ calm. answers given source.schedule.valid source.accepted (few_events bytes given source);
  prints = printed;
}

-- refused bytes are no source
refuses_none : (bytes text : List ℕ) → Refuses bytes text → IsNoSource bytes
refuses_none bytes text refuses = λ given source. source_is_played bytes given refuses.line refuses.cause source refuses.refused

-- ---- what was read of the source

-- a source is read whole
read_whole : (bytes : List ℕ) (given : List Event) → IsSource bytes given → take most_read bytes ≡ bytes
read_whole bytes given source = take_all most_read bytes (omega (arith, source.schedule.short))

below_or_at : (n m : ℕ) → n ≤ m → (n < m) ⊎ (n ≡ m)
below_or_at n m le = grind arith

-- what was read is as much as is read of what was left
read_prefix : (bytes rest : List ℕ) → length bytes ≤ most_read → (length bytes < most_read → rest ≡ []) → take most_read (bytes ++ rest) ≡ bytes
read_prefix bytes rest within at_end = by_length (below_or_at (length bytes) most_read within)
  where
    by_length : (length bytes < most_read) ⊎ (length bytes ≡ most_read) → take most_read (bytes ++ rest) ≡ bytes
    by_length (inl lt) = ap (λ (r : List ℕ). take most_read (bytes ++ r)) (at_end lt) ∙ ap (take most_read) (append-nil bytes) ∙ take_all most_read bytes within
    by_length (inr is) = take_at bytes rest most_read is

-- what was read is all that was left, or as much as is read
read_out : (left after : Option (List ℕ)) (bytes : List ℕ) → Consumes left after bytes → length bytes ≤ most_read → (length bytes < most_read → IsAtEnd after) → IsReadOut left after
read_out left after bytes consumed within at_end =
    elim (below_or_at (length bytes) most_read within) [
      | inl lt ↦ record { bytes = bytes; consumed = consumed; whole = inr (at_end lt) }
      | inr is ↦ record { bytes = bytes; consumed = consumed; whole = inl is }
    ]

pub finds_read : (words : List (String Global)) (left after : Option (List ℕ)) (bytes : List ℕ) (finding : Finding) (text : List ℕ)
    → IsReplay words → Consumes left after bytes → length bytes ≤ most_read → (length bytes < most_read → IsAtEnd after) → FoundIn bytes finding text → Finds words left after finding text
finds_read words None after bytes findings.Reported text replay consumed within at_end found = (replay, at_end (omega (arith, found.is_source.schedule.short)), tt)
finds_read words (Some all) None bytes findings.Reported text replay consumed within at_end found = absurd consumed
finds_read words (Some all) (Some rest) bytes findings.Reported text replay consumed within at_end found =
    let ended : rest ≡ [] = at_end (omega (arith, found.is_source.schedule.short)) in
    let whole : bytes ≡ all = sym (append-nil bytes) ∙ sym (ap (λ (r : List ℕ). bytes ++ r) ended) ∙ sym consumed in
    (replay, ended, subst (λ (bs : List ℕ). Reports bs text) whole found)
finds_read words left after bytes findings.Usage text replay consumed within at_end found = absurd found
finds_read words None after bytes findings.Refused text replay consumed within at_end found = (replay, read_out None after bytes consumed within at_end, tt)
finds_read words (Some all) None bytes findings.Refused text replay consumed within at_end found = absurd consumed
finds_read words (Some all) (Some rest) bytes findings.Refused text replay consumed within at_end found =
    let prefix : take most_read all ≡ bytes = ap (take most_read) consumed ∙ read_prefix bytes rest within at_end in
    (replay, read_out (Some all) (Some rest) bytes consumed within at_end, subst (λ (bs : List ℕ). Refuses bs text) (sym prefix) found)

---- what has to be written

whole_reported : (left : Option (List ℕ)) (text : List ℕ) → IfSome left (λ bytes. Reports bytes text) → IfSome left (λ bytes. OwesReplay (take most_read bytes) text)
whole_reported None text h = tt
whole_reported (Some bytes) text h = inl (subst (λ (bs : List ℕ). Reports bs text) (sym (read_whole bytes h.given h.is_source)) h)

none_owed : (left : Option (List ℕ)) (text : List ℕ) → ReadsRefused left text → IfSome left (λ bytes. OwesReplay (take most_read bytes) text)
none_owed None text h = tt
none_owed (Some bytes) text h = inr h

owes : (words : List (String Global)) (left after : Option (List ℕ)) (finding : Finding) (text : List ℕ) → Finds words left after finding text → Owes words left text
owes words left after findings.Reported text found = inl (found.0, whole_reported left text found.2)
owes words left after findings.Usage text found = inr found
owes words left after findings.Refused text found = inl (found.0, none_owed left text found.2)

-- a prefix of what has to be written was written
pub writes_prefix : (words : List (String Global)) (left after old new : Option (List ℕ)) (finding : Finding) (text : List ℕ) → Finds words left after finding text → AppendsPrefix old new text → WritesPrefix words left old new
writes_prefix words left after old new finding text found prefix = inl (text, owes words left after finding text found, prefix)

-- ---- which status comes

held : (left : Option (List ℕ)) (text : List ℕ) → HoldsSource left → ReadsRefused left text → ⊥
held None text holds refuses = absurd holds
held (Some bytes) text holds refuses = refuses_none (take most_read bytes) text refuses holds.0 (subst (λ (bs : List ℕ). IsSource bs holds.0) (sym (read_whole bytes holds.0 holds.1)) holds.1)

not_held : (left : Option (List ℕ)) (text : List ℕ) → HoldsNoSource left → IfSome left (λ bytes. Reports bytes text) → ⊥
not_held None text holds found = absurd holds
not_held (Some bytes) text holds found = holds found.given (subst (λ (bs : List ℕ). IsSource bs found.given) (sym (read_whole bytes found.given found.is_source)) found.is_source)

pub complete_status : (words : List (String Global)) (left after : Option (List ℕ)) (finding : Finding) (text : List ℕ) → Finds words left after finding text → IsReplay words → HoldsSource left → (status_of finding ≡ 0) ⊎ (status_of finding ≡ 5)
complete_status words left after findings.Reported text found replay holds = inl refl
complete_status words left after findings.Usage text found replay holds = absurd (found.0 replay)
complete_status words left after findings.Refused text found replay holds = absurd (held left text holds found.2)

pub refused_status : (words : List (String Global)) (left after : Option (List ℕ)) (finding : Finding) (text : List ℕ) → Finds words left after finding text → IsReplay words → HoldsNoSource left → (status_of finding ≡ 2) ⊎ (status_of finding ≡ 5)
refused_status words left after findings.Reported text found replay holds = absurd (not_held left text holds found.2)
refused_status words left after findings.Usage text found replay holds = absurd (found.0 replay)
refused_status words left after findings.Refused text found replay holds = inl refl

---- what status 2 means

pub writes_refusal : (words : List (String Global)) (left after old new : Option (List ℕ)) (finding : Finding) (text : List ℕ) → Finds words left after finding text → status_of finding ≡ 2 → Appends old new text → IsReplay words × IsReadOut left after × WritesRefusal left old new
writes_refusal words left after old new findings.Reported text found is appends = absurd cc
writes_refusal words left after old new findings.Usage text found is appends = absurd cc
writes_refusal words None after old new findings.Refused text found is appends = (found.0, found.1, tt)
writes_refusal words (Some bytes) after old new findings.Refused text found is appends = (found.0, found.1, (text, found.2, appends))
