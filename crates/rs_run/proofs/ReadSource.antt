-- The loop over the events of a source: the events read, before those still to be read.
use Rattle.std.proofs.Common.{◌≡◌, ℕ, ◌+◌, ◌≤◌, Bool, true, false, cond, List, [], ◌∷◌, ◌++◌, length, Option, Some, None, Result, Ok, Err, refl, sym, ap, ◌∙◌, subst, append_assoc, arith}
use Rattle.rs_sched.specs.declared.event.Event.{Event}
use Rattle.rs_sched.specs.declared.fault.Why.{Why}
use Rattle.rs_sched.specs.declared.fault.SchedFault.{SchedFault}
use Rattle.rs_sched.specs.declared.fault.SchedFault.TheVariants as scheds
use Rattle.rs_sched.specs.Lines.{without_returns, is_comment}
use Rattle.rs_sched.specs.Reader.{line_at, sites_after}
use Rattle.rs_sched.specs.Next.{Left, next_in, next_of, event_by, FailsNext}
use Rattle.rs_course.specs.Played.{may_come, is_open_after}
use Rattle.rs_run.specs.declared.source.Cause.TheVariants as causes
use Rattle.rs_run.specs.declared.source.SourceFault.{SourceFault}
use Rattle.rs_run.specs.SourceReader.{Read, refused, with_events, ended, further_by, source_at, of_sched, FailsSource, GivesSource}

abbrev Next : Type 0
Next = Result (Option Event × Left) SchedFault

-- what is read by the next event
abbrev by_found : Bool → Option Event → Left → Read
by_found unsettled None left = ended unsettled left.before
by_found unsettled (Some event) left = further_by unsettled left.before (Ok event) (λ e. source_at (is_open_after unsettled e) left.sites left.before left.lines)

abbrev by_next : Bool → Next → Read
by_next unsettled (Ok found) = by_found unsettled found.0 found.1
by_next unsettled (Err (scheds.BadLine line why)) = refused line (causes.Bad why)
by_next unsettled (Err scheds.NoMemory) = refused 0 causes.Later

source_next : (lines : List (List ℕ)) (unsettled : Bool) (sites : Option ℕ) (before : ℕ) → source_at unsettled sites before lines ≡ by_next unsettled (next_in sites before lines)
source_next [] unsettled None before = refl
source_next [] unsettled (Some sites) before = refl
source_next (line ∷ lines) unsettled sites before = by_comment (is_comment (without_returns line)) (source_next lines)
  where
    by_line : (read : Result Event Why) → further_by unsettled (before + 1) read (λ event. source_at (is_open_after unsettled event) (sites_after sites event) (before + 1) lines)
        ≡ by_next unsettled (event_by (record { sites = sites; before = before + 1; lines = lines }) read)
    by_line (Ok event) = refl
    by_line (Err why) = refl

    by_comment : (comment : Bool) → ((unsettled : Bool) (sites : Option ℕ) (before : ℕ) → source_at unsettled sites before lines ≡ by_next unsettled (next_in sites before lines))
        → cond comment (source_at unsettled sites (before + 1) lines) (further_by unsettled (before + 1) (line_at sites (without_returns line)) (λ event. source_at (is_open_after unsettled event) (sites_after sites event) (before + 1) lines))
        ≡ by_next unsettled (cond comment (next_in sites (before + 1) lines) (event_by (record { sites = sites; before = before + 1; lines = lines }) (line_at sites (without_returns line))))
    by_comment true others = others unsettled sites (before + 1)
    by_comment false others = by_line (line_at sites (without_returns line))

source_left : (unsettled : Bool) (left : Left) (next : Next) → next_of left ≡ next → source_at unsettled left.sites left.before left.lines ≡ by_next unsettled next
unfolding next_of
source_left unsettled left next e = source_next left.lines unsettled left.sites left.before ∙ ap (by_next unsettled) e

-- no event is left
pub read_end : (found : List Event) (unsettled : Bool) (left new : Left) (total : Read) → next_of left ≡ Ok (None, new) → with_events found (source_at unsettled left.sites left.before left.lines) ≡ total → total ≡ with_events found (ended unsettled new.before)
read_end found unsettled left new total e so_far = sym so_far ∙ ap (with_events found) (source_left unsettled left (Ok (None, new)) e)

-- the next event may not come
pub read_later : (found : List Event) (unsettled : Bool) (left new : Left) (event : Event) (total : Read) → next_of left ≡ Ok (Some event, new) → may_come unsettled event ≡ false
    → with_events found (source_at unsettled left.sites left.before left.lines) ≡ total → total ≡ refused new.before causes.Later
read_later found unsettled left new event total e may so_far =
    let one : source_at unsettled left.sites left.before left.lines ≡ refused new.before causes.Later = source_left unsettled left (Ok (Some event, new)) e ∙ rw may refl in
    sym so_far ∙ ap (with_events found) one

with_events-push : (found : List Event) (event : Event) (read : Read) → with_events found (with_events (event ∷ []) read) ≡ with_events (found ++ event ∷ []) read
with_events-push found event (Err fault) = refl
with_events-push found event (Ok others) = ap (λ (es : List Event). Ok es) (sym (append_assoc found (event ∷ []) others))

-- the next event may come
pub read_more : (found : List Event) (unsettled : Bool) (left new : Left) (event : Event) (total : Read) → next_of left ≡ Ok (Some event, new) → may_come unsettled event ≡ true
    → with_events found (source_at unsettled left.sites left.before left.lines) ≡ total → with_events (found ++ event ∷ []) (source_at (is_open_after unsettled event) new.sites new.before new.lines) ≡ total
read_more found unsettled left new event total e may so_far =
    let rest = source_at (is_open_after unsettled event) new.sites new.before new.lines in
    let one : source_at unsettled left.sites left.before left.lines ≡ with_events (event ∷ []) rest = source_left unsettled left (Ok (Some event, new)) e ∙ rw may refl in
    sym (with_events-push found event rest) ∙ sym (ap (with_events found) one) ∙ so_far

-- a line is wrong
pub read_bad : (found : List Event) (unsettled : Bool) (left : Left) (fault : SchedFault) (total : Read) → FailsNext fault (next_of left) → with_events found (source_at unsettled left.sites left.before left.lines) ≡ total → FailsSource (of_sched fault) total
read_bad found unsettled left (scheds.BadLine line why) total e so_far = sym so_far ∙ ap (with_events found) (source_left unsettled left (Err (scheds.BadLine line why)) e)
read_bad found unsettled left scheds.NoMemory total e so_far = tt

-- ---- fewer lines are left

abbrev found_in : Next → Option Event
found_in (Ok found) = found.0
found_in (Err fault) = None

abbrev lines_in : Next → List (List ℕ)
lines_in (Ok found) = found.1.lines
lines_in (Err fault) = []

fewer_in : (lines : List (List ℕ)) (sites : Option ℕ) (before : ℕ) (event : Event) (new : Left) → next_in sites before lines ≡ Ok (Some event, new) → length new.lines + 1 ≤ length lines
fewer_in [] None before event new e = absurd cc
fewer_in [] (Some sites) before event new e = let f : None ≡ Some event = ap found_in e in absurd cc
fewer_in (line ∷ lines) sites before event new e = by_comment (is_comment (without_returns line)) (fewer_in lines) e
  where
    by_line : (read : Result Event Why) → event_by (record { sites = sites; before = before + 1; lines = lines }) read ≡ Ok (Some event, new) → length new.lines + 1 ≤ length (line ∷ lines)
    by_line (Err why) e = absurd cc
    by_line (Ok given) e =
        let same : lines ≡ new.lines = ap lines_in e in
        omega (arith, ap (λ (ls : List (List ℕ)). length ls) same)

    by_comment : (comment : Bool) → ((sites : Option ℕ) (before : ℕ) (event : Event) (new : Left) → next_in sites before lines ≡ Ok (Some event, new) → length new.lines + 1 ≤ length lines)
        → cond comment (next_in sites (before + 1) lines) (event_by (record { sites = sites; before = before + 1; lines = lines }) (line_at sites (without_returns line))) ≡ Ok (Some event, new) → length new.lines + 1 ≤ length (line ∷ lines)
    by_comment true others e = omega (arith, others sites (before + 1) event new e)
    by_comment false others e = by_line (line_at sites (without_returns line)) e

pub fewer : (left new : Left) (event : Event) → next_of left ≡ Ok (Some event, new) → length new.lines + 1 ≤ length left.lines
unfolding next_of
fewer left new event e = fewer_in left.lines left.sites left.before event new e

---- by the result of the next line

some_next : (left new : Left) (next : Option Event) (event : Event) → next_of left ≡ Ok (next, new) → next ≡ Some event → next_of left ≡ Ok (Some event, new)
some_next left new next event e is = e ∙ ap (λ (n : Option Event). Ok (n, new)) is

pub goes_on : (found : List Event) (unsettled : Bool) (left new : Left) (next : Option Event) (event : Event) (total : Read) → next_of left ≡ Ok (next, new) → next ≡ Some event → may_come unsettled event ≡ true
    → with_events found (source_at unsettled left.sites left.before left.lines) ≡ total → with_events (found ++ event ∷ []) (source_at (is_open_after unsettled event) new.sites new.before new.lines) ≡ total
goes_on found unsettled left new next event total e is may so_far = read_more found unsettled left new event total (some_next left new next event e is) may so_far

pub comes_later : (found : List Event) (unsettled : Bool) (left new : Left) (next : Option Event) (event : Event) (total : Read) → next_of left ≡ Ok (next, new) → next ≡ Some event → may_come unsettled event ≡ false
    → with_events found (source_at unsettled left.sites left.before left.lines) ≡ total → total ≡ refused new.before causes.Later
comes_later found unsettled left new next event total e is may so_far = read_later found unsettled left new event total (some_next left new next event e is) may so_far

pub fewer_left : (left new : Left) (next : Option Event) (event : Event) → next_of left ≡ Ok (next, new) → next ≡ Some event → length new.lines + 1 ≤ length left.lines
fewer_left left new next event e is = fewer left new event (some_next left new next event e is)

pub ends : (found : List Event) (unsettled : Bool) (left new : Left) (next : Option Event) (total : Read) (result : Result (List Event) SourceFault) → next_of left ≡ Ok (next, new) → ((event : Event) → next ≡ Some event → ⊥)
    → with_events found (source_at unsettled left.sites left.before left.lines) ≡ total → GivesSource result (with_events found (ended unsettled new.before)) → GivesSource result total
ends found unsettled left new (Some event) total result e none so_far gives = absurd (none event refl)
ends found unsettled left new None total result e none so_far gives = subst (GivesSource result) (sym (read_end found unsettled left new total e so_far)) gives
