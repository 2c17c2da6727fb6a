-- Bytes have at most one fault, which is the one that the reader reports.
use Rattle.std.proofs.Common.{◌≡◌, ℕ, zero, suc, ◌+◌, ◌<◌, Bool, true, false, List, [], ◌∷◌, ◌++◌, length, Option, Some, None, Result, Ok, Err, IsTrue, ◌⊎◌, refl, sym, ap, ◌∙◌, subst, inl, inr, arith}
use Rattle.std.proofs.lemmas.Bool.{lt-ltb}
use Rattle.rs_sched.specs.declared.event.Event.{Event}
use Rattle.rs_sched.specs.declared.event.Event.TheVariants as events
use Rattle.rs_sched.specs.declared.fault.Why.{Why}
use Rattle.rs_sched.specs.declared.fault.Why.TheVariants as whys
use Rattle.rs_sched.specs.declared.fault.SchedFault.{SchedFault}
use Rattle.rs_sched.specs.declared.fault.SchedFault.TheVariants as faults
use Rattle.rs_sched.specs.Lines.{lines_of, without_returns, is_comment}
use Rattle.rs_sched.specs.Encoding.{line_of, IsLine}
use Rattle.rs_sched.specs.Schedule.{IsLater, AreLines, IsSchedule}
use Rattle.rs_sched.specs.Faults.{IsRightLine, rank, IsCause, IsFault}
use Rattle.rs_sched.specs.Reader.{lines_at, line_at, sites_after, events_of}
use Rattle.rs_sched.proofs.LineLaws.{line_of_part}
use Rattle.rs_sched.proofs.CauseLaws.{first_is, later_is}
use Rattle.rs_sched.proofs.ScheduleLaws.{Feedless, lines_feedless, not_ltb, Few, Continues, known, no_comment_line, next_of, line_cause, events_again}

-- ---- one cause

abbrev why_of : ℕ → Why
why_of zero = whys.NoSites
why_of (suc zero) = whys.SitesAgain
why_of (suc (suc zero)) = whys.UnknownWord
why_of (suc (suc (suc zero))) = whys.BadFields
why_of (suc (suc (suc (suc zero)))) = whys.NotUtf8
why_of (suc (suc (suc (suc (suc n))))) = whys.TooLong

why_of-rank : (why : Why) → why_of (rank why) ≡ why
why_of-rank whys.NoSites = refl
why_of-rank whys.SitesAgain = refl
why_of-rank whys.UnknownWord = refl
why_of-rank whys.BadFields = refl
why_of-rank whys.NotUtf8 = refl
why_of-rank whys.TooLong = refl

ordered : (m n : ℕ) → (m < n) ⊎ ((n < m) ⊎ (m ≡ n))
ordered m n = grind arith

-- a line has one first cause
cause_once : (sites : Option ℕ) (line : List ℕ) (why other : Why) → IsCause sites line why → IsCause sites line other → why ≡ other
cause_once sites line why other h k =
    elim (ordered (rank why) (rank other)) [
      | inl lt ↦ absurd (k.first why lt h.fits)
      | inr (inl gt) ↦ absurd (h.first other gt k.fits)
      | inr (inr same) ↦ sym (why_of-rank why) ∙ ap why_of same ∙ why_of-rank other
    ]

-- a line that is read is valid
read_right_line : (sites : Option ℕ) (line : List ℕ) (event : Event) → Few sites → IsLine line → line_at sites line ≡ Ok event → IsRightLine sites line
read_right_line None line event few right e = let first = first_is line event e in (first.number, first.number_right, first.written)
read_right_line (Some sites) line event few right e =
    let read = later_is sites line event few e in
    let later : IsLater sites event = record { fits = read.fits; text = read.text_right right } in
    (event, later, read.written)

-- a line that isn't valid is refused for its first cause
bad_is_refused : (sites : Option ℕ) (line : List ℕ) (why : Why) → Few sites → IsLine line → ¬ IsRightLine sites line → IsCause sites line why → line_at sites line ≡ Err why
bad_is_refused sites line why few right wrong cause = by_read (line_at sites line) refl
  where
    to_known : (s : Option ℕ) → known s [] ≡ s
    to_known None = refl
    to_known (Some n) = refl

    by_read : (read : Result Event Why) → line_at sites line ≡ read → line_at sites line ≡ Err why
    by_read (Ok event) e = absurd (wrong (read_right_line sites line event few right e))
    by_read (Err other) e =
        let also : IsCause sites line other = subst (λ (s : Option ℕ). IsCause s line other) (to_known sites) (line_cause sites line other few e) in
        e ∙ ap (λ (w : Why). Err w) (cause_once sites line other why also cause)

-- ---- one line

-- the first event of a prefix of a valid list is read, and the others are such a prefix after it
record Goes (sites : Option ℕ) (event : Event) (others : List Event) : Type 0 where
  read : line_at sites (line_of event) ≡ Ok event
  few : Few (sites_after sites event)
  goes : Continues (sites_after sites event) others
  knows : known sites (event ∷ others) ≡ known (sites_after sites event) others

goes_of : (sites : Option ℕ) (event : Event) (others : List Event) → Few sites → Continues sites (event ∷ others) → Goes sites event others
goes_of (Some sites) event others few h = let next = next_of (Some sites) event others h in record { read = next.read; few = few; goes = next.completes; knows = refl }
goes_of None (events.Sites n) others few h = let next = next_of None (events.Sites n) others h in record { read = next.read; few = h.0.1; goes = next.completes; knows = refl }
goes_of None (events.Ask origin text) others few h = absurd h
goes_of None (events.Deliver k) others few h = absurd h
goes_of None (events.Lose k) others few h = absurd h
goes_of None (events.Tick site n) others few h = absurd h
goes_of None (events.Stop site k j) others few h = absurd h
goes_of None (events.Arm site c k j) others few h = absurd h
goes_of None (events.Restart site) others few h = absurd h
goes_of None (events.Settle count) others few h = absurd h
goes_of None (events.Noise site bytes) others few h = absurd h

-- a bad line after lines with these events
record IsBadAfter (sites : Option ℕ) (given : List Event) (line : List ℕ) (why : Why) : Type 0 where
  no_comment : is_comment (without_returns line) ≡ false
  not_right : ¬ IsRightLine (known sites given) (without_returns line)
  cause : IsCause (known sites given) (without_returns line) why

bad_here : (sites : Option ℕ) (line : List ℕ) (why : Why) → Few sites → IsLine (without_returns line) → IsBadAfter sites [] line why → line_at sites (without_returns line) ≡ Err why
bad_here None line why few right h = bad_is_refused None (without_returns line) why few right h.not_right h.cause
bad_here (Some sites) line why few right h = bad_is_refused (Some sites) (without_returns line) why few right h.not_right h.cause

line_number_next : (before n at : ℕ) → at ≡ before + (1 + n) + 1 → at ≡ (before + 1) + n + 1
line_number_next before n at is = omega (arith, is)

bad_again : (prefix : List (List ℕ)) (sites : Option ℕ) (before : ℕ) (given : List Event) (line : List ℕ) (suffix : List (List ℕ)) (at : ℕ) (why : Why) → Few sites → Feedless (prefix ++ line ∷ suffix)
    → Continues sites given → AreLines prefix given → at ≡ before + length prefix + 1 → IsBadAfter sites given line why → lines_at sites before (prefix ++ line ∷ suffix) ≡ Err (faults.BadLine at why)
bad_again [] sites before [] line suffix at why few feeds goes written numbered bad =
    let read = bad_here sites line why few (line_of_part line feeds.0) bad in
    let is : at ≡ before + 1 = omega (arith, numbered) in
    rw (bad.no_comment, read, is) refl
bad_again [] sites before (event ∷ given) line suffix at why few feeds goes written numbered bad = absurd written
bad_again (first ∷ prefix) sites before [] line suffix at why few feeds goes written numbered bad =
    rw written.0 (bad_again prefix sites (before + 1) [] line suffix at why few feeds.1 goes written.1 (line_number_next before (length prefix) at (omega (arith, numbered))) bad)
bad_again (first ∷ prefix) sites before (event ∷ given) line suffix at why few feeds goes (inl comment) numbered bad =
    rw comment.0 (bad_again prefix sites (before + 1) (event ∷ given) line suffix at why few feeds.1 goes comment.1 (line_number_next before (length prefix) at (omega (arith, numbered))) bad)
bad_again (first ∷ prefix) sites before (event ∷ given) line suffix at why few feeds goes (inr here) numbered bad =
    let next = goes_of sites event given few goes in
    let suffix_it : IsBadAfter (sites_after sites event) given line why = record {
      no_comment = bad.no_comment;
      not_right = subst (λ (s : Option ℕ). ¬ IsRightLine s (without_returns line)) next.knows bad.not_right;
      cause = subst (λ (s : Option ℕ). IsCause s (without_returns line) why) next.knows bad.cause;
    } in
    let others = bad_again prefix (sites_after sites event) (before + 1) given line suffix at why next.few feeds.1 next.goes here.1 (line_number_next before (length prefix) at (omega (arith, numbered))) suffix_it in
    rw (here.0, no_comment_line event, next.read, others) refl

none_again : (lines : List (List ℕ)) (before : ℕ) → AreLines lines [] → lines_at None before lines ≡ Err (faults.BadLine (before + length lines + 1) whys.NoSites)
none_again [] before comments = let is : before + 1 ≡ before + 0 + 1 = omega arith in ap (λ (n : ℕ). Err (faults.BadLine n whys.NoSites)) is
none_again (line ∷ lines) before comments =
    let is : (before + 1) + length lines + 1 ≡ before + length (line ∷ lines) + 1 = omega arith in
    rw comments.0 (none_again lines (before + 1) comments.1 ∙ ap (λ (n : ℕ). Err (faults.BadLine n whys.NoSites)) is)

not_true_false : (b : Bool) → ¬ IsTrue b → b ≡ false
not_true_false false h = refl
not_true_false true h = absurd (h refl)

-- A fault of the bytes is the one that the reader reports.
pub fault_again : (bytes : List ℕ) (at : ℕ) (why : Why) → IsFault bytes at why → events_of bytes ≡ Err (faults.BadLine at why)
unfolding events_of
fault_again bytes at why (inl many) = rw (lt-ltb 16777216 (length bytes) many.long, many.numbered, many.cause) refl
fault_again bytes at why (inr (inl bad)) =
    let feeds : Feedless (bad.before ++ bad.line ∷ bad.suffix) = subst Feedless bad.separated (lines_feedless bytes) in
    let suffix : IsBadAfter None bad.given bad.line why = record { no_comment = not_true_false (is_comment (without_returns bad.line)) bad.no_comment; not_right = bad.not_right; cause = bad.cause } in
    let numbered : at ≡ 0 + length bad.before + 1 = omega (arith, bad.numbered) in
    rw (not_ltb 16777216 (length bytes) bad.short, bad.separated) (bad_again bad.before None 0 bad.given bad.line bad.suffix at why tt feeds bad.begun bad.given_right numbered suffix)
fault_again bytes at why (inr (inr none)) =
    let numbered : 0 + length (lines_of bytes) + 1 ≡ at = omega (arith, none.numbered) in
    rw (not_ltb 16777216 (length bytes) none.short, none.cause) (none_again (lines_of bytes) 0 none.comments ∙ ap (λ (n : ℕ). Err (faults.BadLine n whys.NoSites)) numbered)

abbrev Read : Type 0
Read = Result (List Event) SchedFault

abbrev refused : ℕ → Why → Read
refused at why = Err (faults.BadLine at why)

of_same : (at line : ℕ) (why cause : Why) → refused at why ≡ refused line cause → (at ≡ line) × (why ≡ cause)
of_same at line why cause e = (cc, cc)

-- Bytes have at most one fault.
pub fault_once : (bytes : List ℕ) (at line : ℕ) (why cause : Why) → IsFault bytes at why → IsFault bytes line cause → (at ≡ line) × (why ≡ cause)
fault_once bytes at line why cause h k = of_same at line why cause (sym (fault_again bytes at why h) ∙ fault_again bytes line cause k)

-- A schedule has none.
pub schedule_no_fault : (bytes : List ℕ) (given : List Event) (at : ℕ) (why : Why) → IsSchedule bytes given → IsFault bytes at why → ⊥
schedule_no_fault bytes given at why h k = let e = events_again bytes given h in let f = fault_again bytes at why k in absurd cc
