-- What reading a source line by line finds: its events, or where it stops.
use Rattle.std.proofs.Common.{◌≡◌, ℕ, ◌+◌, ◌<◌, ◌≤◌, Bool, true, false, cond, ◌&&◌, ltb, List, [], ◌∷◌, ◌++◌, length, Option, Some, None, Result, Ok, Err, ◌⊎◌, refl, sym, ap, ◌∙◌, subst, inl, inr, arith}
use Rattle.std.proofs.lemmas.Bool.{and_parts, and_from, ltb-true, ltb-false, lt-ltb}
use Rattle.rs_sched.specs.declared.event.Event.{Event}
use Rattle.rs_sched.specs.declared.fault.Why.{Why}
use Rattle.rs_sched.specs.declared.fault.Why.TheVariants as whys
use Rattle.rs_sched.specs.declared.fault.SchedFault.{SchedFault}
use Rattle.rs_sched.specs.declared.fault.SchedFault.TheVariants as scheds
use Rattle.rs_sched.specs.Lines.{lines_of, without_returns, is_comment}
use Rattle.rs_sched.specs.Encoding.{line_of}
use Rattle.rs_sched.specs.Schedule.{AreLines}
use Rattle.rs_sched.specs.Faults.{IsFault}
use Rattle.rs_sched.specs.Reader as sched
use Rattle.rs_sched.specs.Reader.{lines_at, line_at, sites_after, events_of}
use Rattle.rs_sched.proofs.CauseLaws.{first_is}
use Rattle.rs_sched.proofs.LineLaws.{line_of_part}
use Rattle.rs_sched.proofs.ScheduleLaws.{not_ltb, Feedless, lines_feedless, Few, Completes, Follows, line_follows, comment_more, no_comment_line, next_of, events_are, events_again, fault_is}
use Rattle.rs_course.specs.Played.{may_come, is_open_after, are_accepted}
use Rattle.rs_run.specs.declared.source.Cause.{Cause}
use Rattle.rs_run.specs.declared.source.Cause.TheVariants as causes
use Rattle.rs_run.specs.declared.source.Refusal.{Refusal}
use Rattle.rs_run.specs.Refusal.{IsSource, may_all_come, is_open_after_all, IsLaterLine, LacksSettle}
use Rattle.rs_run.specs.SourceReader.{Read, refused, with_events, end_by, further_by, source_at, source_of}

-- ---- which events may come

-- a list that is accepted is one of events that may come, and none of its asks lacks its settle
accepted_parts : (given : List Event) (unsettled : Bool) → are_accepted unsettled given ≡ true → (may_all_come unsettled given ≡ true) × (is_open_after_all unsettled given ≡ false)
accepted_parts [] true h = absurd cc
accepted_parts [] false h = (refl, refl)
accepted_parts (event ∷ given) unsettled h =
    let both = and_parts (may_come unsettled event) (are_accepted (is_open_after unsettled event) given) h in
    let others = accepted_parts given (is_open_after unsettled event) both.1 in
    (and_from (may_come unsettled event) (may_all_come (is_open_after unsettled event) given) both.0 others.0, others.1)

and_false : (a : Bool) → (a && false) ≡ false
and_false true = refl
and_false false = refl

-- ---- lines that are read by the grammar alone

-- what is read of a line that gives an event, and of those after it
event_lines_at : (line : List ℕ) (lines : List (List ℕ)) (sites : Option ℕ) (before : ℕ) (event : Event) → is_comment (without_returns line) ≡ false → line_at sites (without_returns line) ≡ Ok event
    → lines_at sites before (line ∷ lines) ≡ sched.with_events (event ∷ []) (lines_at (sites_after sites event) (before + 1) lines)
event_lines_at line lines sites before event comment read = rw (comment, read) refl

comment_lines_at : (line : List ℕ) (lines : List (List ℕ)) (sites : Option ℕ) (before : ℕ) → is_comment (without_returns line) ≡ true → lines_at sites before (line ∷ lines) ≡ lines_at sites (before + 1) lines
comment_lines_at line lines sites before comment = rw comment refl

record After (event : Event) (read : Result (List Event) SchedFault) (given : List Event) : Type 0 where
  others : List Event
  read_is : read ≡ Ok others
  given_is : given ≡ event ∷ others

with_ok : (event : Event) (read : Result (List Event) SchedFault) (given : List Event) → sched.with_events (event ∷ []) read ≡ Ok given → After event read given
with_ok event (Err fault) given e = absurd cc
with_ok event (Ok others) given e = record { others = others; read_is = refl; given_is = cc }

-- ---- what reading a source finds in these lines

-- one of the lines gives an event that may not come
record LaterAmong (unsettled : Bool) (sites : Option ℕ) (before : ℕ) (lines : List (List ℕ)) (at : ℕ) : Type 0 where
  prefix : List (List ℕ)
  line : List ℕ
  suffix : List (List ℕ)
  separated : lines ≡ prefix ++ line ∷ suffix
  numbered : at ≡ before + length prefix + 1
  given : List Event
  event : Event
  given_lines : AreLines prefix given
  event_line : without_returns line ≡ line_of event
  right : Completes sites (given ++ event ∷ [])
  may : may_all_come unsettled given ≡ true
  may_not : may_come (is_open_after_all unsettled given) event ≡ false
  -- if all lines are right, not all events may come
  not_all : (all : List Event) → lines_at sites before lines ≡ Ok all → may_all_come unsettled all ≡ false

-- the last ask has no settle
record LacksAmong (unsettled : Bool) (sites : Option ℕ) (before : ℕ) (lines : List (List ℕ)) (at : ℕ) : Type 0 where
  given : List Event
  read : lines_at sites before lines ≡ Ok given
  may : may_all_come unsettled given ≡ true
  left_open : is_open_after_all unsettled given ≡ true
  numbered : at ≡ before + length lines + 1

data Found (unsettled : Bool) (sites : Option ℕ) (before : ℕ) (lines : List (List ℕ)) (read : Read) : Type 0 where
  played : (given : List Event) → read ≡ Ok given → lines_at sites before lines ≡ Ok given → are_accepted unsettled given ≡ true → Found unsettled sites before lines read
  bad : (at : ℕ) (why : Why) → read ≡ refused at (causes.Bad why) → lines_at sites before lines ≡ Err (scheds.BadLine at why) → Found unsettled sites before lines read
  later : (at : ℕ) → read ≡ refused at causes.Later → LaterAmong unsettled sites before lines at → Found unsettled sites before lines read
  lacks : (at : ℕ) → read ≡ refused at causes.Later → LacksAmong unsettled sites before lines at → Found unsettled sites before lines read

found_end : (unsettled : Bool) (sites : Option ℕ) (before : ℕ) → Found unsettled sites before [] (end_by unsettled sites before)
found_end unsettled None before = bad (before + 1) whys.NoSites refl refl
found_end true (Some sites) before = lacks (before + 1) refl (record { given = []; read = refl; may = refl; left_open = refl; numbered = omega arith })
found_end false (Some sites) before = played [] refl refl refl

found_comment : (unsettled : Bool) (sites : Option ℕ) (before : ℕ) (line : List ℕ) (lines : List (List ℕ)) (read : Read) → is_comment (without_returns line) ≡ true → Found unsettled sites (before + 1) lines read → Found unsettled sites before (line ∷ lines) read
found_comment unsettled sites before line lines read comment (played given is right accepted) = played given is (comment_lines_at line lines sites before comment ∙ right) accepted
found_comment unsettled sites before line lines read comment (bad at why is wrong) = bad at why is (comment_lines_at line lines sites before comment ∙ wrong)
found_comment unsettled sites before line lines read comment (lacks at is h) = lacks at is (record {
  given = h.given;
  read = comment_lines_at line lines sites before comment ∙ h.read;
  may = h.may;
  left_open = h.left_open;
  numbered = omega (arith, h.numbered);
})
found_comment unsettled sites before line lines read comment (later at is h) = later at is (record {
  prefix = line ∷ h.prefix;
  line = h.line;
  suffix = h.suffix;
  separated = ap (λ (ls : List (List ℕ)). line ∷ ls) h.separated;
  numbered = omega (arith, h.numbered);
  given = h.given;
  event = h.event;
  given_lines = comment_more line h.prefix h.given comment h.given_lines;
  event_line = h.event_line;
  right = h.right;
  may = h.may;
  may_not = h.may_not;
  not_all = λ all e. h.not_all all (sym (comment_lines_at line lines sites before comment) ∙ e);
})

-- a line that gives an event
record IsEventLine (unsettled : Bool) (sites : Option ℕ) (line : List ℕ) (event : Event) : Type 0 where
  no_comment : is_comment (without_returns line) ≡ false
  read : line_at sites (without_returns line) ≡ Ok event
  follows : Follows sites (without_returns line) event

found_event : (unsettled : Bool) (sites : Option ℕ) (before : ℕ) (line : List ℕ) (lines : List (List ℕ)) (event : Event) (read : Read) → IsEventLine unsettled sites line event → may_come unsettled event ≡ true
    → Found (is_open_after unsettled event) (sites_after sites event) (before + 1) lines read → Found unsettled sites before (line ∷ lines) (with_events (event ∷ []) read)
found_event unsettled sites before line lines event read here may (played given is right accepted) =
    let all = event_lines_at line lines sites before event here.no_comment here.read in
    played (event ∷ given) (ap (with_events (event ∷ [])) is) (all ∙ ap (sched.with_events (event ∷ [])) right) (and_from (may_come unsettled event) (are_accepted (is_open_after unsettled event) given) may accepted)
found_event unsettled sites before line lines event read here may (bad at why is wrong) =
    let all = event_lines_at line lines sites before event here.no_comment here.read in
    bad at why (ap (with_events (event ∷ [])) is) (all ∙ ap (sched.with_events (event ∷ [])) wrong)
found_event unsettled sites before line lines event read here may (lacks at is h) =
    let all = event_lines_at line lines sites before event here.no_comment here.read in
    lacks at (ap (with_events (event ∷ [])) is) (record {
      given = event ∷ h.given;
      read = all ∙ ap (sched.with_events (event ∷ [])) h.read;
      may = and_from (may_come unsettled event) (may_all_come (is_open_after unsettled event) h.given) may h.may;
      left_open = h.left_open;
      numbered = omega (arith, h.numbered);
    })
found_event unsettled sites before line lines event read here may (later at is h) =
    let all = event_lines_at line lines sites before event here.no_comment here.read in
    let rest = lines_at (sites_after sites event) (before + 1) lines in
    later at (ap (with_events (event ∷ [])) is) (record {
      prefix = line ∷ h.prefix;
      line = h.line;
      suffix = h.suffix;
      separated = ap (λ (ls : List (List ℕ)). line ∷ ls) h.separated;
      numbered = omega (arith, h.numbered);
      given = event ∷ h.given;
      event = h.event;
      given_lines = inr (here.follows.written, h.given_lines);
      event_line = h.event_line;
      right = here.follows.completes (h.given ++ h.event ∷ []) h.right;
      may = and_from (may_come unsettled event) (may_all_come (is_open_after unsettled event) h.given) may h.may;
      may_not = h.may_not;
      not_all = λ given e. not_all_of given (with_ok event rest given (sym all ∙ e)) h.not_all;
    })
  where
    not_all_of : (given : List Event) → After event (lines_at (sites_after sites event) (before + 1) lines) given
        → ((all : List Event) → lines_at (sites_after sites event) (before + 1) lines ≡ Ok all → may_all_come (is_open_after unsettled event) all ≡ false) → may_all_come unsettled given ≡ false
    not_all_of given b others =
        ap (may_all_come unsettled) b.given_is ∙ ap (λ (t : Bool). may_come unsettled event && t) (others b.others b.read_is) ∙ and_false (may_come unsettled event)

found_later : (unsettled : Bool) (sites : Option ℕ) (before : ℕ) (line : List ℕ) (lines : List (List ℕ)) (event : Event) → IsEventLine unsettled sites line event → Completes (sites_after sites event) [] → may_come unsettled event ≡ false
    → Found unsettled sites before (line ∷ lines) (refused (before + 1) causes.Later)
found_later unsettled sites before line lines event here none may =
    let all = event_lines_at line lines sites before event here.no_comment here.read in
    let rest = lines_at (sites_after sites event) (before + 1) lines in
    later (before + 1) refl (record {
      prefix = [];
      line = line;
      suffix = lines;
      separated = refl;
      numbered = omega arith;
      given = [];
      event = event;
      given_lines = tt;
      event_line = here.follows.written;
      right = here.follows.completes [] none;
      may = refl;
      may_not = may;
      not_all = λ given e. not_all_of given (with_ok event rest given (sym all ∙ e));
    })
  where
    not_all_of : (given : List Event) → After event (lines_at (sites_after sites event) (before + 1) lines) given → may_all_come unsettled given ≡ false
    not_all_of given b = ap (may_all_come unsettled) b.given_is ∙ rw may refl

-- after an event that was read, some number of sites is known, and no more has to come
none_follows : (sites : Option ℕ) (line : List ℕ) (event : Event) → Follows sites line event → line_at sites line ≡ Ok event → Completes (sites_after sites event) []
none_follows (Some sites) line event follows read = tt
none_follows None line event follows read = let first = first_is line event read in subst (λ (e : Event). Completes (sites_after None e) []) (sym first.is) tt

found_lines : (lines : List (List ℕ)) (unsettled : Bool) (sites : Option ℕ) (before : ℕ) → Few sites → Feedless lines → Found unsettled sites before lines (source_at unsettled sites before lines)
found_lines [] unsettled sites before few feeds = found_end unsettled sites before
found_lines (line ∷ lines) unsettled sites before few feeds = by_comment (is_comment (without_returns line)) refl (found_lines lines)
  where
    by_may : (event : Event) (may : Bool) → may_come unsettled event ≡ may → IsEventLine unsettled sites line event → ((unsettled : Bool) (sites : Option ℕ) (before : ℕ) → Few sites → Feedless lines → Found unsettled sites before lines (source_at unsettled sites before lines))
        → Found unsettled sites before (line ∷ lines) (cond may (with_events (event ∷ []) (source_at (is_open_after unsettled event) (sites_after sites event) (before + 1) lines)) (refused (before + 1) causes.Later))
    by_may event true m here others = found_event unsettled sites before line lines event (source_at (is_open_after unsettled event) (sites_after sites event) (before + 1) lines) here m (others (is_open_after unsettled event) (sites_after sites event) (before + 1) here.follows.few feeds.1)
    by_may event false m here others = found_later unsettled sites before line lines event here (none_follows sites (without_returns line) event here.follows here.read) m

    by_line : (read : Result Event Why) → line_at sites (without_returns line) ≡ read → is_comment (without_returns line) ≡ false
        → ((unsettled : Bool) (sites : Option ℕ) (before : ℕ) → Few sites → Feedless lines → Found unsettled sites before lines (source_at unsettled sites before lines))
        → Found unsettled sites before (line ∷ lines) (further_by unsettled (before + 1) read (λ event. source_at (is_open_after unsettled event) (sites_after sites event) (before + 1) lines))
    by_line (Err why) r c others = bad (before + 1) why refl (rw (c, r) refl)
    by_line (Ok event) r c others =
        let here : IsEventLine unsettled sites line event = record { no_comment = c; read = r; follows = line_follows sites (without_returns line) event few (line_of_part line feeds.0) r } in
        by_may event (may_come unsettled event) refl here others

    by_comment : (comment : Bool) → is_comment (without_returns line) ≡ comment
        → ((unsettled : Bool) (sites : Option ℕ) (before : ℕ) → Few sites → Feedless lines → Found unsettled sites before lines (source_at unsettled sites before lines))
        → Found unsettled sites before (line ∷ lines) (cond comment (source_at unsettled sites (before + 1) lines) (further_by unsettled (before + 1) (line_at sites (without_returns line)) (λ event. source_at (is_open_after unsettled event) (sites_after sites event) (before + 1) lines)))
    by_comment true c others = found_comment unsettled sites before line lines (source_at unsettled sites (before + 1) lines) c (others unsettled sites (before + 1) few feeds.1)
    by_comment false c others = by_line (line_at sites (without_returns line)) refl c others

-- ---- a later line is found

later_again : (prefix : List (List ℕ)) (unsettled : Bool) (sites : Option ℕ) (before : ℕ) (given : List Event) (event : Event) (line : List ℕ) (suffix : List (List ℕ)) (at : ℕ) → AreLines prefix given → without_returns line ≡ line_of event
    → Completes sites (given ++ event ∷ []) → may_all_come unsettled given ≡ true → may_come (is_open_after_all unsettled given) event ≡ false → at ≡ before + length prefix + 1 → source_at unsettled sites before (prefix ++ line ∷ suffix) ≡ refused at causes.Later
later_again [] unsettled sites before [] event line suffix at written here right may may_not numbered =
    let next = next_of sites event [] right in
    let is : at ≡ before + 1 = omega (arith, numbered) in
    rw (here, no_comment_line event, next.read, may_not, is) refl
later_again [] unsettled sites before (first ∷ given) event line suffix at written here right may may_not numbered = absurd written
later_again (l ∷ prefix) unsettled sites before [] event line suffix at written here right may may_not numbered =
    let is : at ≡ (before + 1) + length prefix + 1 = omega (arith, numbered) in
    rw written.0 (later_again prefix unsettled sites (before + 1) [] event line suffix at written.1 here right may may_not is)
later_again (l ∷ prefix) unsettled sites before (first ∷ given) event line suffix at (inl comment) here right may may_not numbered =
    let is : at ≡ (before + 1) + length prefix + 1 = omega (arith, numbered) in
    rw comment.0 (later_again prefix unsettled sites (before + 1) (first ∷ given) event line suffix at comment.1 here right may may_not is)
later_again (l ∷ prefix) unsettled sites before (first ∷ given) event line suffix at (inr one) here right may may_not numbered =
    let is : at ≡ (before + 1) + length prefix + 1 = omega (arith, numbered) in
    let next = next_of sites first (given ++ event ∷ []) right in
    let both = and_parts (may_come unsettled first) (may_all_come (is_open_after unsettled first) given) may in
    let others = later_again prefix (is_open_after unsettled first) (sites_after sites first) (before + 1) given event line suffix at one.1 here next.completes both.1 may_not is in
    rw (one.0, no_comment_line first, next.read, both.0, others) refl

-- ---- results that are one

abbrev Given : Type 0
Given = Result (List Event) SchedFault

abbrev fault_at : ℕ → Why → Given
fault_at at why = Err (scheds.BadLine at why)

same_fault : (m n : ℕ) (v w : Why) → fault_at m v ≡ fault_at n w → (m ≡ n) × (v ≡ w)
same_fault m n v w e = (cc, cc)

abbrev played_as : List Event → Read
played_as given = Ok given

abbrev refused_as : Refusal → Read
refused_as refusal = Err refusal

abbrev read_as : List Event → Given
read_as given = Ok given

same_read : (given others : List Event) → read_as given ≡ read_as others → given ≡ others
same_read given others e = cc

same_events : (given others : List Event) → played_as given ≡ played_as others → given ≡ others
same_events given others e = cc

same_refusal : (r s : Refusal) → refused_as r ≡ refused_as s → r ≡ s
same_refusal r s e = cc

not_both : (given : List Event) (r : Refusal) → played_as given ≡ refused_as r → ⊥
not_both given r e = cc

apart : (given : List Event) (at : ℕ) (cause : Cause) → played_as given ≡ refused at cause → ⊥
apart given at cause e = cc

-- ---- the bytes

events_of-short : (bytes : List ℕ) → length bytes ≤ 16777216 → events_of bytes ≡ lines_at None 0 (lines_of bytes)
unfolding events_of
events_of-short bytes short = rw (not_ltb 16777216 (length bytes) short) refl

source_of-short : (bytes : List ℕ) → length bytes ≤ 16777216 → source_of bytes ≡ source_at false None 0 (lines_of bytes)
unfolding source_of
source_of-short bytes short = rw (not_ltb 16777216 (length bytes) short) refl

found_bytes : (bytes : List ℕ) → length bytes ≤ 16777216 → Found false None 0 (lines_of bytes) (source_of bytes)
found_bytes bytes short = subst (Found false None 0 (lines_of bytes)) (sym (source_of-short bytes short)) (found_lines (lines_of bytes) false None 0 tt (lines_feedless bytes))

-- what is a source is read
pub source_again : (bytes : List ℕ) (given : List Event) → IsSource bytes given → source_of bytes ≡ Ok given
source_again bytes given source = by_found (found_bytes bytes short)
  where
    short : length bytes ≤ 16777216
    short = source.schedule.short

    reads : lines_at None 0 (lines_of bytes) ≡ Ok given
    reads = sym (events_of-short bytes source.schedule.short) ∙ events_again bytes given source.schedule

    by_found : Found false None 0 (lines_of bytes) (source_of bytes) → source_of bytes ≡ Ok given
    by_found (played others is right accepted) = is ∙ ap played_as (same_read others given (sym right ∙ reads))
    by_found (bad at why is wrong) = let e = sym wrong ∙ reads in absurd cc
    by_found (later at is h) = let e = sym (h.not_all given reads) ∙ (accepted_parts given false source.accepted).0 in absurd cc
    by_found (lacks at is h) =
        let also = same_read h.given given (sym h.read ∙ reads) in
        let e = sym h.left_open ∙ ap (is_open_after_all false) also ∙ (accepted_parts given false source.accepted).1 in
        absurd cc

pub later_line_again : (bytes : List ℕ) (at : ℕ) → IsLaterLine bytes at → source_of bytes ≡ refused at causes.Later
later_line_again bytes at h =
    let numbered : at ≡ 0 + length h.before + 1 = omega (arith, h.numbered) in
    source_of-short bytes h.short ∙ ap (source_at false None 0) h.separated ∙ later_again h.before false None 0 h.given h.event h.line h.suffix at h.given_lines h.event_line h.right h.all_may h.may_not numbered

pub lacks_again : (bytes : List ℕ) (at : ℕ) → LacksSettle bytes at → source_of bytes ≡ refused at causes.Later
lacks_again bytes at h = by_found (found_bytes bytes h.schedule.short)
  where
    reads : lines_at None 0 (lines_of bytes) ≡ Ok h.given
    reads = sym (events_of-short bytes h.schedule.short) ∙ events_again bytes h.given h.schedule

    by_found : Found false None 0 (lines_of bytes) (source_of bytes) → source_of bytes ≡ refused at causes.Later
    by_found (played others is right accepted) =
        let also = same_read h.given others (sym reads ∙ right) in
        let e = sym h.unsettled ∙ ap (is_open_after_all false) also ∙ (accepted_parts others false accepted).1 in
        absurd cc
    by_found (bad line why is wrong) = let e = sym wrong ∙ reads in absurd cc
    by_found (later line is k) = let e = sym (k.not_all h.given reads) ∙ h.all_may in absurd cc
    by_found (lacks line is k) =
        let same : line ≡ at = omega (arith, k.numbered, h.numbered) in
        is ∙ ap (λ (n : ℕ). refused n causes.Later) same

long_read : (bytes : List ℕ) → 16777216 < length bytes → source_of bytes ≡ refused 0 (causes.Bad whys.TooLong)
unfolding source_of
long_read bytes long = rw (lt-ltb 16777216 (length bytes) long) refl

-- ---- what is found is so

later_is : (bytes : List ℕ) (at : ℕ) → length bytes ≤ 16777216 → LaterAmong false None 0 (lines_of bytes) at → IsLaterLine bytes at
later_is bytes at short h = record {
  short = short;
  before = h.prefix;
  line = h.line;
  suffix = h.suffix;
  separated = h.separated;
  numbered = omega (arith, h.numbered);
  given = h.given;
  event = h.event;
  given_lines = h.given_lines;
  event_line = h.event_line;
  right = h.right;
  all_may = h.may;
  may_not = h.may_not;
}

-- where reading stops: at a fault, or at a line that isn't played yet
abbrev pub Stops : List ℕ → ℕ → Cause → Type 0
Stops bytes at (causes.Bad why) = IsFault bytes at why
Stops bytes at causes.Later = IsLaterLine bytes at ⊎ LacksSettle bytes at

pub data Result_of (bytes : List ℕ) : Type 0 where
  source : (given : List Event) → source_of bytes ≡ Ok given → IsSource bytes given → Result_of bytes
  refusal : (at : ℕ) (cause : Cause) → source_of bytes ≡ refused at cause → Stops bytes at cause → Result_of bytes

pub result_of : (bytes : List ℕ) → Result_of bytes
result_of bytes = by_length (ltb 16777216 (length bytes)) refl
  where
    reads : length bytes ≤ 16777216 → (read : Result (List Event) SchedFault) → lines_at None 0 (lines_of bytes) ≡ read → events_of bytes ≡ read
    reads short read e = events_of-short bytes short ∙ e

    by_found : length bytes ≤ 16777216 → Found false None 0 (lines_of bytes) (source_of bytes) → Result_of bytes
    by_found short (played given is right accepted) = source given is (record { schedule = events_are bytes given (reads short (Ok given) right); accepted = accepted })
    by_found short (bad at why is wrong) = refusal at (causes.Bad why) is (fault_is bytes at why (reads short (Err (scheds.BadLine at why)) wrong))
    by_found short (later at is h) = refusal at causes.Later is (inl (later_is bytes at short h))
    by_found short (lacks at is h) = refusal at causes.Later is (inr (record {
      given = h.given;
      schedule = events_are bytes h.given (reads short (Ok h.given) h.read);
      all_may = h.may;
      unsettled = h.left_open;
      numbered = omega (arith, h.numbered);
    }))

    by_length : (long : Bool) → ltb 16777216 (length bytes) ≡ long → Result_of bytes
    by_length false l = let short = ltb-false 16777216 (length bytes) l in by_found short (found_bytes bytes short)
    by_length true l =
        let long = ltb-true 16777216 (length bytes) l in
        let is = long_read bytes long in
        refusal 0 (causes.Bad whys.TooLong) is (inl (record { long = long; numbered = refl; cause = refl }))
