-- What the parts of one transaction decide, by the places of its events. In each definition `older` are the events before
-- one, the latest first; parts count from 0.
use Rattle.std.specs.Prelude.{ℕ, Bool, true, false, not, ◌&&◌, ◌||◌, ◌==◌, List, [], ◌∷◌, map, reverse, Option, Some, None, if◌then◌else◌}
use Rattle.std.specs.List.{list_all, range_with_len}
use Rattle.std.specs.Option.{option_or}
use Rattle.rs_commit.specs.declared.event.CommitEvent.{CommitEvent}
use Rattle.rs_commit.specs.declared.event.CommitEvent.TheVariants as events
use Rattle.rs_commit.specs.declared.event.Decision.{Decision}
use Rattle.rs_commit.specs.declared.event.Decision.TheVariants as decisions
use Rattle.rs_commit.specs.declared.event.Settlement.{Settlement}
use Rattle.rs_commit.specs.declared.event.Settlement.TheVariants as settlements

-- an event has come for which the test holds, given those before it
abbrev pub has_come : (CommitEvent → List CommitEvent → Bool) → List CommitEvent → Bool
has_come test [] = false
has_come test (event ∷ older) = has_come test older || test event older

-- what the first event gives that gives something
abbrev pub first_given : {A : Type 0} → (CommitEvent → List CommitEvent → Option A) → List CommitEvent → Option A
first_given given [] = None
first_given given (event ∷ older) = option_or (first_given given older) (given event older)

abbrev pub is_prepare : ℕ → CommitEvent → Bool
is_prepare part (events.Prepare i) = part == i
is_prepare part _ = false

abbrev pub is_vote : ℕ → CommitEvent → Bool
is_vote part (events.Vote i) = part == i
is_vote part _ = false

abbrev pub is_abort : ℕ → CommitEvent → Bool
is_abort part (events.Abort i) = part == i
is_abort part _ = false

abbrev pub is_stop : ℕ → CommitEvent → Bool
is_stop part (events.StopPart i) = part == i
is_stop part _ = false

abbrev pub is_give_up : CommitEvent → Bool
is_give_up events.GiveUp = true
is_give_up _ = false

-- the part's site has stopped
unfoldable pub has_stopped : ℕ → List CommitEvent → Bool
has_stopped part = has_come (λ event older. is_stop part event)

-- the master has given up
unfoldable pub has_given_up : List CommitEvent → Bool
has_given_up = has_come (λ event older. is_give_up event)

-- an Abort has reached the part after the master gave up
unfoldable pub is_dropped : ℕ → List CommitEvent → Bool
is_dropped part = has_come (λ event older. is_abort part event && has_given_up older)

-- A Prepare has reached the part and took: before it the part's site didn't stop, and no Abort came of a master that gave
-- up.
unfoldable pub has_prepared : ℕ → List CommitEvent → Bool
has_prepared part =
    has_come (λ event older. is_prepare part event && not (has_stopped part older || is_dropped part older))

-- the part's vote has come after a Prepare that took
unfoldable pub has_voted : ℕ → List CommitEvent → Bool
has_voted part = has_come (λ event older. is_vote part event && has_prepared part older)

-- each of this number of parts has voted
abbrev pub have_all_voted : ℕ → List CommitEvent → Bool
have_all_voted parts older = list_all (λ part. has_voted part older) (range_with_len 0 parts)

-- A Decide counts if each part has voted. GiveUp and a stop of the master's site always count.
abbrev pub settles : ℕ → CommitEvent → List CommitEvent → Option Settlement
settles parts events.Decide older = if have_all_voted parts older then Some settlements.Decided else None
settles parts events.GiveUp older = Some settlements.GivenUp
settles parts events.StopMaster older = Some settlements.Stopped
settles parts _ older = None

-- The first Decide, GiveUp or stop of the master that counts settles the transaction.
unfoldable pub settled : ℕ → List CommitEvent → Option Settlement
settled parts = first_given (settles parts)

-- Commit reaches a part: it commits if the master has decided.
abbrev pub by_commit : Option Settlement → Option Decision
by_commit (Some settlements.Decided) = Some decisions.Commit
by_commit (Some settlements.GivenUp) = None
by_commit (Some settlements.Stopped) = None
by_commit None = None

-- Abort reaches a part: it aborts if the master has given up, unless it stopped before it prepared.
abbrev pub by_abort : Option Settlement → Bool → Bool → Option Decision
by_abort (Some settlements.GivenUp) prepared stopped =
    if not prepared && stopped then None else Some decisions.Abort
by_abort (Some settlements.Decided) prepared stopped = None
by_abort (Some settlements.Stopped) prepared stopped = None
by_abort None prepared stopped = None

-- A part inquires: it commits if the master has decided; if the master has given up or stopped, a prepared part aborts.
abbrev pub by_inquiry : Option Settlement → Bool → Option Decision
by_inquiry (Some settlements.Decided) prepared = Some decisions.Commit
by_inquiry (Some settlements.GivenUp) prepared = if prepared then Some decisions.Abort else None
by_inquiry (Some settlements.Stopped) prepared = if prepared then Some decisions.Abort else None
by_inquiry None prepared = None

-- what an event makes a part decide
abbrev pub decides : ℕ → ℕ → CommitEvent → List CommitEvent → Option Decision
decides parts part (events.Commit i) older = if part == i then by_commit (settled parts older) else None
decides parts part (events.Abort i) older =
    if part == i then by_abort (settled parts older) (has_prepared part older) (has_stopped part older) else None
decides parts part (events.Inquire i) older =
    if part == i then by_inquiry (settled parts older) (has_prepared part older) else None
decides parts part _ older = None

-- A part decides at the first event that makes it decide, and its decision stays.
unfoldable pub decision : ℕ → ℕ → List CommitEvent → Option Decision
decision parts part = first_given (decides parts part)

-- what each of this number of parts has decided after these events, in order
abbrev pub decisions_after : ℕ → List CommitEvent → List (Option Decision)
decisions_after parts happened =
    map (λ part. decision parts part (reverse happened)) (range_with_len 0 parts)
