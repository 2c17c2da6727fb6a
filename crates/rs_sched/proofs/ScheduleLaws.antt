-- All lines: they are read exactly if they are a schedule, and a fault reports the first bad line and its first cause.
use Rattle.std.proofs.Common.{◌≡◌, ℕ, ◌+◌, ◌≤◌, Bool, true, false, cond, not, eqb, ltb, List, [], ◌∷◌, ◌++◌, length, Option, Some, None, Result, Ok, Err, IsTrue, refl, sym, ap, subst, inl, inr, arith}
use Rattle.std.specs.List.{list_all}
use Rattle.std.proofs.lemmas.Bool.{ltb-true, ltb-false, and_from}
use Rattle.rs_sched.specs.declared.event.Event.{Event}
use Rattle.rs_sched.specs.declared.event.Event.TheVariants as events
use Rattle.rs_sched.specs.declared.fault.Why.{Why}
use Rattle.rs_sched.specs.declared.fault.Why.TheVariants as whys
use Rattle.rs_sched.specs.declared.fault.SchedFault.{SchedFault}
use Rattle.rs_sched.specs.declared.fault.SchedFault.TheVariants as faults
use Rattle.rs_sched.specs.Lines.{onto_first, lines_of, without_returns, is_comment, is_before_feed}
use Rattle.rs_sched.specs.Encoding.{line_of, IsLine}
use Rattle.rs_sched.specs.Schedule.{IsLater, AreLater, AreLines, IsValid, IsSchedule}
use Rattle.rs_sched.specs.Faults.{IsRightLine, IsCause, sites_of, IsBegun, IsFault}
use Rattle.rs_sched.specs.Reader.{lines_at, line_at, at_end, further, sites_after, with_events, events_of}
use Rattle.std.specs.Prelude.{IfOk, IfErr}
use Rattle.rs_sched.specs.Reading.{GivesSchedule, FailsSchedule, ReportsFault}
use Rattle.rs_sched.proofs.LineLaws.{line_of_part}
use Rattle.rs_sched.proofs.CauseLaws.{later_is, later_right, later_cause, later_wrong, first_is, first_right, first_cause, first_wrong}

pub not_ltb : (a b : ℕ) → b ≤ a → ltb a b ≡ false
not_ltb a b h = by_test (ltb a b) refl
  where
    by_test : (test : Bool) → ltb a b ≡ test → ltb a b ≡ false
    by_test false e = e
    by_test true e = absurd (omega (arith, ltb-true a b e))

-- ---- the lines of a text have no line feeds

abbrev pub Feedless : List (List ℕ) → Type 0
Feedless [] = Unit {0}
Feedless (line ∷ lines) = (list_all is_before_feed line ≡ true) × Feedless lines

onto_feedless : (b : ℕ) (lines : List (List ℕ)) → is_before_feed b ≡ true → Feedless lines → Feedless (onto_first b lines)
onto_feedless b [] one h = (and_from (is_before_feed b) true one refl, tt)
onto_feedless b (line ∷ lines) one h = (and_from (is_before_feed b) (list_all is_before_feed line) one h.0, h.1)

feedless_by : (b : ℕ) (bytes : List ℕ) (test : Bool) → eqb b 10 ≡ test → Feedless (lines_of bytes) → Feedless (lines_of (b ∷ bytes))
feedless_by b bytes true e h = rw e (refl, h)
feedless_by b bytes false e h = rw e (onto_feedless b (lines_of bytes) (ap not e) h)

pub lines_feedless : (bytes : List ℕ) → Feedless (lines_of bytes)
lines_feedless [] = tt
lines_feedless (b ∷ bytes) = feedless_by b bytes (eqb b 10) refl (lines_feedless bytes)

-- ---- after a state

-- the number of sites that are known is at most 16
abbrev pub Few : Option ℕ → Type 0
Few None = Unit {0}
Few (Some sites) = sites ≤ 16

-- the events are a prefix of those valid after this state
abbrev pub Continues : Option ℕ → List Event → Type 0
Continues None given = IsBegun given
Continues (Some sites) given = AreLater sites given

-- the events are valid after this state, and complete
abbrev pub Completes : Option ℕ → List Event → Type 0
Completes None given = IsValid given
Completes (Some sites) given = AreLater sites given

abbrev pub known : Option ℕ → List Event → Option ℕ
known None given = sites_of given
known (Some sites) given = Some sites

-- an event was read after this state
pub record Follows (sites : Option ℕ) (line : List ℕ) (event : Event) : Type 0 where
  pub written : line ≡ line_of event
  pub few : Few (sites_after sites event)
  pub begins : (others : List Event) → Continues (sites_after sites event) others → Continues sites (event ∷ others)
  pub completes : (others : List Event) → Completes (sites_after sites event) others → Completes sites (event ∷ others)
  pub knows : (others : List Event) → known sites (event ∷ others) ≡ known (sites_after sites event) others

pub line_follows : (sites : Option ℕ) (line : List ℕ) (event : Event) → Few sites → IsLine line → line_at sites line ≡ Ok event → Follows sites line event
line_follows None line event few right e =
    let first = first_is line event e in
    let n = first.number in
    let made : Follows None line (events.Sites n) = record {
      written = first.written;
      few = first.number_right.1;
      begins = λ others h. (first.number_right, h);
      completes = λ others h. (first.number_right, h);
      knows = λ others. refl;
    } in
    subst (Follows None line) (sym first.is) made
line_follows (Some sites) line event few right e =
    let read = later_is sites line event few e in
    let later : IsLater sites event = record { fits = read.fits; text = read.text_right right } in
    record {
      written = read.written;
      few = few;
      begins = λ others h. (later, h);
      completes = λ others h. (later, h);
      knows = λ others. refl;
    }

-- ---- what is read is a schedule

record AreRead (sites : Option ℕ) (lines : List (List ℕ)) (given : List Event) : Type 0 where
  completes : Completes sites given
  written : AreLines lines given

pub comment_more : (line : List ℕ) (lines : List (List ℕ)) (given : List Event) → IsTrue (is_comment (without_returns line)) → AreLines lines given → AreLines (line ∷ lines) given
comment_more line lines [] comment h = (comment, h)
comment_more line lines (event ∷ given) comment h = inl (comment, h)

with_ok : (event : Event) (read : Result (List Event) SchedFault) (given : List Event) → with_events (event ∷ []) read ≡ Ok given → (others : List Event) × (read ≡ Ok others) × (event ∷ others ≡ given)
with_ok event (Err fault) given e = absurd cc
with_ok event (Ok others) given e = (others, refl, cc)

record Further (before : ℕ) (read : Result Event Why) (others : Event → Result (List Event) SchedFault) (given : List Event) : Type 0 where
  first : Event
  first_read : read ≡ Ok first
  rest : List Event
  rest_read : others first ≡ Ok rest
  joined : first ∷ rest ≡ given

further_ok : (before : ℕ) (read : Result Event Why) (others : Event → Result (List Event) SchedFault) (given : List Event) → further before read others ≡ Ok given → Further before read others given
further_ok before (Err why) others given e = absurd cc
further_ok before (Ok event) others given e =
    let more = with_ok event (others event) given e in
    record { first = event; first_read = refl; rest = more.0; rest_read = more.1; joined = more.2 }

end_read : (sites : Option ℕ) (before : ℕ) (given : List Event) → at_end sites before ≡ Ok given → AreRead sites [] given
end_read None before given e = absurd cc
end_read (Some sites) before given e =
    let none : AreRead (Some sites) [] [] = record { completes = tt; written = tt } in
    let same : [] ≡ given = cc in
    subst (AreRead (Some sites) []) same none

lines_read : (lines : List (List ℕ)) (sites : Option ℕ) (before : ℕ) (given : List Event) → Few sites → Feedless lines → lines_at sites before lines ≡ Ok given → AreRead sites lines given
lines_read [] sites before given few feeds e = end_read sites before given e
lines_read (line ∷ lines) sites before given few feeds e = by_comment (is_comment (without_returns line)) refl e (lines_read lines)
  where
    by_comment : (comment : Bool) → is_comment (without_returns line) ≡ comment
        → cond comment (lines_at sites (before + 1) lines) (further (before + 1) (line_at sites (without_returns line)) (λ event. lines_at (sites_after sites event) (before + 1) lines)) ≡ Ok given
        → ((sites : Option ℕ) (before : ℕ) (given : List Event) → Few sites → Feedless lines → lines_at sites before lines ≡ Ok given → AreRead sites lines given) → AreRead sites (line ∷ lines) given
    by_comment true c e others =
        let more = others sites (before + 1) given few feeds.1 e in
        record { completes = more.completes; written = comment_more line lines given c more.written }
    by_comment false c e others =
        let step = further_ok (before + 1) (line_at sites (without_returns line)) (λ event. lines_at (sites_after sites event) (before + 1) lines) given e in
        let first = line_follows sites (without_returns line) step.first few (line_of_part line feeds.0) step.first_read in
        let more = others (sites_after sites step.first) (before + 1) step.rest first.few feeds.1 step.rest_read in
        let made : AreRead sites (line ∷ lines) (step.first ∷ step.rest) = record { completes = first.completes step.rest more.completes; written = inr (first.written, more.written) } in
        subst (AreRead sites (line ∷ lines)) step.joined made

-- What is read is a schedule.
pub events_are : (bytes : List ℕ) (given : List Event) → events_of bytes ≡ Ok given → IsSchedule bytes given
unfolding events_of
events_are bytes given e = by_length (ltb 16777216 (length bytes)) refl e
  where
    by_length : (long : Bool) → ltb 16777216 (length bytes) ≡ long → cond long (Err (faults.BadLine 0 whys.TooLong)) (lines_at None 0 (lines_of bytes)) ≡ Ok given → IsSchedule bytes given
    by_length true l e = absurd cc
    by_length false l e =
        let read = lines_read (lines_of bytes) None 0 given tt (lines_feedless bytes) e in
        record { short = ltb-false 16777216 (length bytes) l; lines = read.written; valid = read.completes }

-- ---- what is a schedule is read

pub no_comment_line : (event : Event) → is_comment (line_of event) ≡ false
no_comment_line (events.Sites n) = refl
no_comment_line (events.Ask origin text) = refl
no_comment_line (events.Deliver k) = refl
no_comment_line (events.Lose k) = refl
no_comment_line (events.Tick site n) = refl
no_comment_line (events.Stop site k j) = refl
no_comment_line (events.Arm site c k j) = refl
no_comment_line (events.Restart site) = refl
no_comment_line (events.Settle None) = refl
no_comment_line (events.Settle (Some n)) = refl
no_comment_line (events.Noise site bytes) = refl

pub record Next (sites : Option ℕ) (event : Event) (others : List Event) : Type 0 where
  pub read : line_at sites (line_of event) ≡ Ok event
  pub completes : Completes (sites_after sites event) others

pub next_of : (sites : Option ℕ) (event : Event) (others : List Event) → Completes sites (event ∷ others) → Next sites event others
next_of (Some sites) event others h = record { read = later_right sites event h.0; completes = h.1 }
next_of None (events.Sites n) others h = record { read = first_right n h.0; completes = h.1 }
next_of None (events.Ask origin text) others h = absurd h
next_of None (events.Deliver k) others h = absurd h
next_of None (events.Lose k) others h = absurd h
next_of None (events.Tick site n) others h = absurd h
next_of None (events.Stop site k j) others h = absurd h
next_of None (events.Arm site c k j) others h = absurd h
next_of None (events.Restart site) others h = absurd h
next_of None (events.Settle count) others h = absurd h
next_of None (events.Noise site bytes) others h = absurd h

lines_again : (lines : List (List ℕ)) (sites : Option ℕ) (before : ℕ) (given : List Event) → Completes sites given → AreLines lines given → lines_at sites before lines ≡ Ok given
lines_again [] None before [] completes written = absurd completes
lines_again [] (Some sites) before [] completes written = refl
lines_again [] sites before (event ∷ given) completes written = absurd written
lines_again (line ∷ lines) sites before [] completes written = rw written.0 (lines_again lines sites (before + 1) [] completes written.1)
lines_again (line ∷ lines) sites before (event ∷ given) completes (inl comment) = rw comment.0 (lines_again lines sites (before + 1) (event ∷ given) completes comment.1)
lines_again (line ∷ lines) sites before (event ∷ given) completes (inr h) =
    let next = next_of sites event given completes in
    let others = lines_again lines (sites_after sites event) (before + 1) given next.completes h.1 in
    rw (h.0, no_comment_line event, next.read, others) refl

-- What is a schedule is read.
pub events_again : (bytes : List ℕ) (given : List Event) → IsSchedule bytes given → events_of bytes ≡ Ok given
unfolding events_of
events_again bytes given h = rw (not_ltb 16777216 (length bytes) h.short) (lines_again (lines_of bytes) None 0 given h.valid h.lines)

-- Bytes are a schedule of at most one list.
pub schedule_once : (bytes : List ℕ) (given others : List Event) → IsSchedule bytes given → IsSchedule bytes others → given ≡ others
schedule_once bytes given others h k = let e = events_again bytes given h in let f = events_again bytes others k in cc

-- ---- what a fault reports

-- one of the lines is bad
record BadAmong (sites : Option ℕ) (before : ℕ) (lines : List (List ℕ)) (at : ℕ) (why : Why) : Type 0 where
  prefix : List (List ℕ)
  line : List ℕ
  suffix : List (List ℕ)
  separated : lines ≡ prefix ++ line ∷ suffix
  numbered : at ≡ before + length prefix + 1
  given : List Event
  begun : Continues sites given
  written : AreLines prefix given
  no_comment : is_comment (without_returns line) ≡ false
  not_right : ¬ IsRightLine (known sites given) (without_returns line)
  cause : IsCause (known sites given) (without_returns line) why

-- all lines are comments, and an event was required
record NoneAmong (sites : Option ℕ) (before : ℕ) (lines : List (List ℕ)) (at : ℕ) (why : Why) : Type 0 where
  unknown : sites ≡ None
  comments : AreLines lines []
  numbered : at ≡ before + length lines + 1
  cause : why ≡ whys.NoSites

data Failed (sites : Option ℕ) (before : ℕ) (lines : List (List ℕ)) (fault : SchedFault) : Type 0 where
  bad : (at : ℕ) (why : Why) → fault ≡ faults.BadLine at why → BadAmong sites before lines at why → Failed sites before lines fault
  none : (at : ℕ) (why : Why) → fault ≡ faults.BadLine at why → NoneAmong sites before lines at why → Failed sites before lines fault

end_failed : (sites : Option ℕ) (before : ℕ) (fault : SchedFault) → at_end sites before ≡ Err fault → Failed sites before [] fault
end_failed (Some sites) before fault e = absurd cc
end_failed None before fault e =
    let made : NoneAmong None before [] (before + 1) whys.NoSites = record { unknown = refl; comments = tt; numbered = omega arith; cause = refl } in
    let is : fault ≡ faults.BadLine (before + 1) whys.NoSites = cc in
    none (before + 1) whys.NoSites is made

-- a comment, then lines that fail
comment_failed : (sites : Option ℕ) (before : ℕ) (line : List ℕ) (lines : List (List ℕ)) (fault : SchedFault) → IsTrue (is_comment (without_returns line)) → Failed sites (before + 1) lines fault → Failed sites before (line ∷ lines) fault
comment_failed sites before line lines fault comment (bad at why is h) = bad at why is (record {
  prefix = line ∷ h.prefix;
  line = h.line;
  suffix = h.suffix;
  separated = ap (λ (ls : List (List ℕ)). line ∷ ls) h.separated;
  numbered = omega (arith, h.numbered);
  given = h.given;
  begun = h.begun;
  written = comment_more line h.prefix h.given comment h.written;
  no_comment = h.no_comment;
  not_right = h.not_right;
  cause = h.cause;
})
comment_failed sites before line lines fault comment (none at why is h) = none at why is (record {
  unknown = h.unknown;
  comments = (comment, h.comments);
  numbered = omega (arith, h.numbered);
  cause = h.cause;
})

known_none : (sites : Option ℕ) (line : List ℕ) (event : Event) → Few sites → IsLine line → line_at sites line ≡ Ok event → sites_after sites event ≡ None → ⊥
known_none None line event few right e unknown = let first = first_is line event e in let same = ap (sites_after None) first.is in cc
known_none (Some sites) line event few right e unknown = cc

-- an event, then lines that fail
event_failed : (sites : Option ℕ) (before : ℕ) (line : List ℕ) (lines : List (List ℕ)) (event : Event) (fault : SchedFault) → (sites_after sites event ≡ None → ⊥) → Follows sites (without_returns line) event
    → Failed (sites_after sites event) (before + 1) lines fault → Failed sites before (line ∷ lines) fault
event_failed sites before line lines event fault some follows (bad at why is h) = bad at why is (record {
  prefix = line ∷ h.prefix;
  line = h.line;
  suffix = h.suffix;
  separated = ap (λ (ls : List (List ℕ)). line ∷ ls) h.separated;
  numbered = omega (arith, h.numbered);
  given = event ∷ h.given;
  begun = follows.begins h.given h.begun;
  written = inr (follows.written, h.written);
  no_comment = h.no_comment;
  not_right = subst (λ (s : Option ℕ). ¬ IsRightLine s (without_returns h.line)) (sym (follows.knows h.given)) h.not_right;
  cause = subst (λ (s : Option ℕ). IsCause s (without_returns h.line) why) (sym (follows.knows h.given)) h.cause;
})
event_failed sites before line lines event fault some follows (none at why is h) = absurd (some h.unknown)

pub line_cause : (sites : Option ℕ) (line : List ℕ) (why : Why) → Few sites → line_at sites line ≡ Err why → IsCause (known sites []) line why
line_cause None line why few e = first_cause line why e
line_cause (Some sites) line why few e = later_cause sites line why few e

line_wrong : (sites : Option ℕ) (line : List ℕ) (why : Why) → line_at sites line ≡ Err why → ¬ IsRightLine (known sites []) line
line_wrong None line why e = first_wrong line why e
line_wrong (Some sites) line why e = later_wrong sites line why e

none_begun : (sites : Option ℕ) → Continues sites []
none_begun None = tt
none_begun (Some sites) = tt

with_err : (event : Event) (read : Result (List Event) SchedFault) (fault : SchedFault) → with_events (event ∷ []) read ≡ Err fault → read ≡ Err fault
with_err event (Err other) fault e = e
with_err event (Ok others) fault e = absurd cc

lines_failed : (lines : List (List ℕ)) (sites : Option ℕ) (before : ℕ) (fault : SchedFault) → Few sites → Feedless lines → lines_at sites before lines ≡ Err fault → Failed sites before lines fault
lines_failed [] sites before fault few feeds e = end_failed sites before fault e
lines_failed (line ∷ lines) sites before fault few feeds e = by_comment (is_comment (without_returns line)) refl e (lines_failed lines)
  where
    by_line : (read : Result Event Why) → line_at sites (without_returns line) ≡ read → is_comment (without_returns line) ≡ false
        → further (before + 1) read (λ event. lines_at (sites_after sites event) (before + 1) lines) ≡ Err fault
        → ((sites : Option ℕ) (before : ℕ) (fault : SchedFault) → Few sites → Feedless lines → lines_at sites before lines ≡ Err fault → Failed sites before lines fault) → Failed sites before (line ∷ lines) fault
    by_line (Err why) r c e others =
        let is : fault ≡ faults.BadLine (before + 1) why = cc in
        let made : BadAmong sites before (line ∷ lines) (before + 1) why = record {
          prefix = [];
          line = line;
          suffix = lines;
          separated = refl;
          numbered = omega arith;
          given = [];
          begun = none_begun sites;
          written = tt;
          no_comment = c;
          not_right = line_wrong sites (without_returns line) why r;
          cause = line_cause sites (without_returns line) why few r;
        } in
        bad (before + 1) why is made
    by_line (Ok event) r c e others =
        let right = line_of_part line feeds.0 in
        let follows = line_follows sites (without_returns line) event few right r in
        let more = others (sites_after sites event) (before + 1) fault follows.few feeds.1 (with_err event (lines_at (sites_after sites event) (before + 1) lines) fault e) in
        event_failed sites before line lines event fault (known_none sites (without_returns line) event few right r) follows more

    by_comment : (comment : Bool) → is_comment (without_returns line) ≡ comment
        → cond comment (lines_at sites (before + 1) lines) (further (before + 1) (line_at sites (without_returns line)) (λ event. lines_at (sites_after sites event) (before + 1) lines)) ≡ Err fault
        → ((sites : Option ℕ) (before : ℕ) (fault : SchedFault) → Few sites → Feedless lines → lines_at sites before lines ≡ Err fault → Failed sites before lines fault) → Failed sites before (line ∷ lines) fault
    by_comment true c e others = comment_failed sites before line lines fault c (others sites (before + 1) fault few feeds.1 e)
    by_comment false c e others = by_line (line_at sites (without_returns line)) refl c e others

not_true : (b : Bool) → b ≡ false → ¬ IsTrue b
not_true true e = absurd cc
not_true false e = λ h. cc

fault_of : (bytes : List ℕ) (at : ℕ) (why : Why) → length bytes ≤ 16777216 → Failed None 0 (lines_of bytes) (faults.BadLine at why) → IsFault bytes at why
fault_of bytes at why short (bad k w is h) =
    let same : k ≡ at = cc in
    let also : w ≡ why = cc in
    let made : IsFault bytes k w = inr (inl (record {
      short = short;
      before = h.prefix;
      line = h.line;
      suffix = h.suffix;
      separated = h.separated;
      numbered = omega (arith, h.numbered);
      given = h.given;
      begun = h.begun;
      given_right = h.written;
      no_comment = not_true (is_comment (without_returns h.line)) h.no_comment;
      not_right = h.not_right;
      cause = h.cause;
    })) in
    subst (λ (n : ℕ). IsFault bytes n why) same (subst (IsFault bytes k) also made)
fault_of bytes at why short (none k w is h) =
    let same : k ≡ at = cc in
    let also : w ≡ why = cc in
    let made : IsFault bytes k w = inr (inr (record { short = short; comments = h.comments; numbered = omega (arith, h.numbered); cause = h.cause })) in
    subst (λ (n : ℕ). IsFault bytes n why) same (subst (IsFault bytes k) also made)

-- A fault reports the first bad line, and the first cause that fits it.
pub fault_is : (bytes : List ℕ) (at : ℕ) (why : Why) → events_of bytes ≡ Err (faults.BadLine at why) → IsFault bytes at why
unfolding events_of
fault_is bytes at why e = by_length (ltb 16777216 (length bytes)) refl e
  where
    by_length : (long : Bool) → ltb 16777216 (length bytes) ≡ long → cond long (Err (faults.BadLine 0 whys.TooLong)) (lines_at None 0 (lines_of bytes)) ≡ Err (faults.BadLine at why) → IsFault bytes at why
    by_length true l e =
        let same : 0 ≡ at = cc in
        let also : whys.TooLong ≡ why = cc in
        inl (record { long = ltb-true _ _ l; numbered = sym same; cause = sym also })
    by_length false l e = fault_of bytes at why (ltb-false 16777216 (length bytes) l) (lines_failed (lines_of bytes) None 0 (faults.BadLine at why) tt (lines_feedless bytes) e)

-- ---- the clauses of `parse_schedule`

pub parse_found : (bytes : List ℕ) (result : Result (List Event) SchedFault) → GivesSchedule result (events_of bytes) → IfOk result (λ given. IsSchedule bytes given)
parse_found bytes (Ok given) e = events_are bytes given e
parse_found bytes (Err fault) e = tt

pub parse_only : (bytes : List ℕ) (result : Result (List Event) SchedFault) → GivesSchedule result (events_of bytes) → (given : List Event) → IsSchedule bytes given → GivesSchedule result (Ok given)
parse_only bytes result e given h = subst (GivesSchedule result) (events_again bytes given h) e

reports : (bytes : List ℕ) (fault : SchedFault) → FailsSchedule fault (events_of bytes) → ReportsFault bytes fault
reports bytes (faults.BadLine at why) e = fault_is bytes at why e
reports bytes faults.NoMemory e = tt

pub parse_fault : (bytes : List ℕ) (result : Result (List Event) SchedFault) → GivesSchedule result (events_of bytes) → IfErr result (λ fault. ReportsFault bytes fault)
parse_fault bytes (Ok given) e = tt
parse_fault bytes (Err fault) e = reports bytes fault e
