-- The loop over events: those found, then those still to be read.
use Rattle.std.proofs.Common.{◌≡◌, ℕ, ◌+◌, ◌<◌, Bool, true, false, List, [], ◌∷◌, ◌++◌, length, Option, Some, None, Result, Ok, Err, refl, sym, ap, ◌∙◌, append_assoc, arith}
use Rattle.std.proofs.lemmas.List.{append-nil}
use Rattle.rs_sched.specs.declared.event.Event.{Event}
use Rattle.rs_sched.specs.declared.fault.Why.{Why}
use Rattle.rs_sched.specs.declared.fault.SchedFault.{SchedFault}
use Rattle.rs_sched.specs.declared.fault.SchedFault.TheVariants as faults
use Rattle.rs_sched.specs.Lines.{without_returns, is_comment}
use Rattle.rs_sched.specs.Next.{Left, event_by, none_by, next_in, next_of, FailsNext}
use Rattle.rs_sched.specs.Reader.{lines_at, line_at, further, sites_after, with_events}
use Rattle.rs_sched.specs.Reading.{FailsSchedule}

-- the events of the lines still to be read
abbrev pub events_left : Left → Result (List Event) SchedFault
events_left left = lines_at left.sites left.before left.lines

with_events-push : (found : List Event) (event : Event) (read : Result (List Event) SchedFault) → with_events found (with_events (event ∷ []) read) ≡ with_events (found ++ event ∷ []) read
with_events-push found event (Err fault) = refl
with_events-push found event (Ok others) = ap (λ (es : List Event). Ok es) (sym (append_assoc found (event ∷ []) others))

-- ---- an event is read

same_ok : (x y : Option Event × Left) → ◌≡◌ {A = Result (Option Event × Left) SchedFault} (Ok x) (Ok y) → (x.0 ≡ y.0) × (x.1 ≡ y.1)
same_ok x y e =
    let same : x ≡ y = cc in
    (ap (λ (p : Option Event × Left). p.0) same, ap (λ (p : Option Event × Left). p.1) same)

no_event : (sites : Option ℕ) (before : ℕ) (event : Event) (new : Left) → none_by sites before ≡ Ok (Some event, new) → ⊥
no_event None before event new e = cc
no_event (Some n) before event new e =
    let same = (same_ok (None, record { sites = Some n; before = before; lines = [] }) (Some event, new) e).0 in
    cc

-- the state after a line with this event
abbrev suffix : Left → Event → Left
suffix left event = record { sites = sites_after left.sites event; before = left.before; lines = left.lines }

-- a line was read as this event
record IsRead (left : Left) (read : Result Event Why) (event : Event) (new : Left) : Type 0 where
  event_is : read ≡ Ok event
  new_is : new ≡ suffix left event

event_by_is : (left : Left) (read : Result Event Why) (event : Event) (new : Left) → event_by left read ≡ Ok (Some event, new) → IsRead left read event new
event_by_is left (Ok found) event new e =
    let same = same_ok (Some found, suffix left found) (Some event, new) e in
    let given : found ≡ event = cc in
    record { event_is = ap (λ (x : Event). Ok x) given; new_is = sym same.1 ∙ ap (suffix left) given }
event_by_is left (Err why) event new e = absurd cc

-- the lines have this event, then those of the lines still to be read
record GoesOn (sites : Option ℕ) (before : ℕ) (lines : List (List ℕ)) (event : Event) (new : Left) : Type 0 where
  pub events : lines_at sites before lines ≡ with_events (event ∷ []) (events_left new)
  pub smaller : length new.lines < length lines

event_next : (sites : Option ℕ) (before : ℕ) (lines : List (List ℕ)) (event : Event) (new : Left) → next_in sites before lines ≡ Ok (Some event, new) → GoesOn sites before lines event new
event_next sites before [] event new e = absurd (no_event sites before event new e)
event_next sites before (line ∷ lines) event new e = by_comment (is_comment (without_returns line)) refl (λ h. event_next sites (before + 1) lines event new h)
  where
    by_comment : (test : Bool) → is_comment (without_returns line) ≡ test → (next_in sites (before + 1) lines ≡ Ok (Some event, new) → GoesOn sites (before + 1) lines event new) → GoesOn sites before (line ∷ lines) event new
    by_comment true c others =
        let next : next_in sites before (line ∷ lines) ≡ next_in sites (before + 1) lines = rw c refl in
        let all : lines_at sites before (line ∷ lines) ≡ lines_at sites (before + 1) lines = rw c refl in
        let h = others (sym next ∙ e) in
        record { events = all ∙ h.events; smaller = omega (arith, h.smaller) }
    by_comment false c others =
        let left : Left = record { sites = sites; before = before + 1; lines = lines } in
        let next : next_in sites before (line ∷ lines) ≡ event_by left (line_at sites (without_returns line)) = rw c refl in
        let read = event_by_is left (line_at sites (without_returns line)) event new (sym next ∙ e) in
        rw read.new_is (record { events = rw (c, read.event_is) refl; smaller = omega arith })

-- ---- no event is read

-- no line has an event
none_next : (sites : Option ℕ) (before : ℕ) (lines : List (List ℕ)) (new : Left) → next_in sites before lines ≡ Ok (None, new) → lines_at sites before lines ≡ Ok []
none_next None before [] new e = absurd cc
none_next (Some n) before [] new e = refl
none_next sites before (line ∷ lines) new e = by_comment (is_comment (without_returns line)) refl (λ h. none_next sites (before + 1) lines new h)
  where
    no_none : (left : Left) (read : Result Event Why) → event_by left read ≡ Ok (None, new) → ⊥
    no_none left (Ok found) e =
        let same = (same_ok (Some found, suffix left found) (None, new) e).0 in
        cc
    no_none left (Err why) e = cc

    by_comment : (test : Bool) → is_comment (without_returns line) ≡ test → (next_in sites (before + 1) lines ≡ Ok (None, new) → lines_at sites (before + 1) lines ≡ Ok []) → lines_at sites before (line ∷ lines) ≡ Ok []
    by_comment true c others =
        let next : next_in sites before (line ∷ lines) ≡ next_in sites (before + 1) lines = rw c refl in
        rw c (others (sym next ∙ e))
    by_comment false c others =
        let left : Left = record { sites = sites; before = before + 1; lines = lines } in
        let next : next_in sites before (line ∷ lines) ≡ event_by left (line_at sites (without_returns line)) = rw c refl in
        absurd (no_none left (line_at sites (without_returns line)) (sym next ∙ e))

-- a line is bad
bad_next : (sites : Option ℕ) (before : ℕ) (lines : List (List ℕ)) (at : ℕ) (why : Why) → next_in sites before lines ≡ Err (faults.BadLine at why) → lines_at sites before lines ≡ Err (faults.BadLine at why)
bad_next None before [] at why e = cc
bad_next (Some n) before [] at why e = absurd cc
bad_next sites before (line ∷ lines) at why e = by_comment (is_comment (without_returns line)) refl (λ h. bad_next sites (before + 1) lines at why h)
  where
    bad_line : (left : Left) (read : Result Event Why) (others : Event → Result (List Event) SchedFault) → event_by left read ≡ Err (faults.BadLine at why) → further left.before read others ≡ Err (faults.BadLine at why)
    bad_line left (Ok found) others e = absurd cc
    bad_line left (Err cause) others e = cc

    by_comment : (test : Bool) → is_comment (without_returns line) ≡ test → (next_in sites (before + 1) lines ≡ Err (faults.BadLine at why) → lines_at sites (before + 1) lines ≡ Err (faults.BadLine at why))
        → lines_at sites before (line ∷ lines) ≡ Err (faults.BadLine at why)
    by_comment true c others =
        let next : next_in sites before (line ∷ lines) ≡ next_in sites (before + 1) lines = rw c refl in
        rw c (others (sym next ∙ e))
    by_comment false c others =
        let left : Left = record { sites = sites; before = before + 1; lines = lines } in
        let next : next_in sites before (line ∷ lines) ≡ event_by left (line_at sites (without_returns line)) = rw c refl in
        let bad = bad_line left (line_at sites (without_returns line)) (λ event. lines_at (sites_after sites event) (before + 1) lines) (sym next ∙ e) in
        rw c bad

-- ---- iterations of the loop

pub event_smaller : (old new : Left) (event : Event) → next_of old ≡ Ok (Some event, new) → length new.lines < length old.lines
unfolding next_of
event_smaller old new event e = (event_next old.sites old.before old.lines event new e).smaller

pub event_found : (found : List Event) (old new : Left) (event : Event) (total : Result (List Event) SchedFault) → next_of old ≡ Ok (Some event, new) → with_events found (events_left old) ≡ total
    → with_events (found ++ event ∷ []) (events_left new) ≡ total
unfolding next_of
event_found found old new event total e so_far =
    let one = (event_next old.sites old.before old.lines event new e).events in
    sym (with_events-push found event (events_left new)) ∙ sym (ap (with_events found) one) ∙ so_far

pub all_found : (found : List Event) (old new : Left) (total : Result (List Event) SchedFault) → next_of old ≡ Ok (None, new) → with_events found (events_left old) ≡ total → total ≡ Ok found
unfolding next_of
all_found found old new total e so_far =
    let one : with_events found (events_left old) ≡ Ok (found ++ []) = ap (with_events found) (none_next old.sites old.before old.lines new e) in
    sym so_far ∙ one ∙ ap (λ (es : List Event). Ok es) (append-nil found)

pub next_fails : (found : List Event) (old : Left) (fault : SchedFault) (total : Result (List Event) SchedFault) → FailsNext fault (next_of old) → with_events found (events_left old) ≡ total → FailsSchedule fault total
unfolding next_of
next_fails found old (faults.BadLine at why) total e so_far = sym so_far ∙ ap (with_events found) (bad_next old.sites old.before old.lines at why e)
next_fails found old faults.NoMemory total e so_far = tt
