-- The commit of one transaction as it is played: the states of a coordinator and its parts, and what an event changes.
use Rattle.std.specs.Prelude.{ℕ, Bool, true, false, List, [], ◌∷◌, map, slice_get, slice_set, Option, Some, None, is_none, if◌then◌else◌}
use Rattle.std.specs.List.{range_with_len}
use Rattle.std.specs.Option.{option_or}
use Rattle.rs_base.specs.declared.txn.Enlist.{Enlist}
use Rattle.rs_commit.specs.declared.event.CommitEvent.{CommitEvent}
use Rattle.rs_commit.specs.declared.event.CommitEvent.TheVariants as events
use Rattle.rs_commit.specs.declared.event.Decision.{Decision}
use Rattle.rs_commit.specs.declared.event.Decision.TheVariants as decisions
use Rattle.rs_commit.specs.declared.event.Settlement.{Settlement}
use Rattle.rs_commit.specs.declared.event.Settlement.TheVariants as settlements
use Rattle.rs_commit.specs.declared.subordinate.Subordinate.TheVariants as states
use Rattle.rs_commit.specs.declared.subordinate.Com.{Com}
use Rattle.rs_commit.specs.declared.subordinate.Com.TheVariants as coms
use Rattle.rs_commit.specs.declared.subordinate.Abo.{Abo}
use Rattle.rs_commit.specs.declared.subordinate.Abo.TheVariants as abos
use Rattle.rs_commit.specs.declared.part.Part.{Part}
use Rattle.rs_commit.specs.declared.part.Master.{Master}
use Rattle.rs_commit.specs.declared.play.Play.{Play}
use Rattle.rs_commit.specs.Subordinate.{is_prepared, after_prepare, commit_answer, after_commit, abort_answer, after_abort}
use Rattle.rs_commit.specs.Coordinator.{silent_part, with_vote, first_silent}

-- ---- one part

abbrev pub new_part : Part
new_part = record { state = states.Working; decided = None }

abbrev pub part_prepared : Part → Part
part_prepared part = record part { state = after_prepare part.state }

-- what a part has decided after its answer to Commit, and to Abort
abbrev pub decided_at_commit : Com → Option Decision → Option Decision
decided_at_commit coms.Force before = Some decisions.Commit
decided_at_commit coms.Again before = before
decided_at_commit coms.Nothing before = before

abbrev pub decided_at_abort : Abo → Option Decision → Option Decision
decided_at_abort abos.Note before = Some decisions.Abort
decided_at_abort abos.Release before = Some decisions.Abort
decided_at_abort abos.Nothing before = before

abbrev pub part_committed : Part → Part
part_committed part = record {
  state = after_commit part.state;
  decided = decided_at_commit (commit_answer part.state) part.decided;
}

abbrev pub part_aborted : Part → Part
part_aborted part = record {
  state = after_abort part.state;
  decided = decided_at_abort (abort_answer part.state) part.decided;
}

-- a stop of its site loses a part that isn't prepared
abbrev pub part_lost : Part → Part
part_lost part = if is_prepared part.state then part else record part { state = after_abort part.state }

-- Abort of a master that has given up aborts the part; one of a master that stopped before it gave up loses it.
abbrev pub told_abort : Option Settlement → Bool → Part → Part
told_abort (Some settlements.GivenUp) gave_up part = part_aborted part
told_abort (Some settlements.Decided) gave_up part = if gave_up then part_lost part else part
told_abort (Some settlements.Stopped) gave_up part = if gave_up then part_lost part else part
told_abort None gave_up part = if gave_up then part_lost part else part

abbrev pub part_told_abort : Master → Part → Part
part_told_abort master part = told_abort master.settled master.gave_up part

abbrev pub part_told_commit : Option Settlement → Part → Part
part_told_commit (Some settlements.Decided) part = part_committed part
part_told_commit (Some settlements.GivenUp) part = part
part_told_commit (Some settlements.Stopped) part = part
part_told_commit None part = part

abbrev pub part_inquired : Option Settlement → Part → Part
part_inquired (Some settlements.Decided) part = part_committed part
part_inquired (Some settlements.GivenUp) part = if is_prepared part.state then part_aborted part else part
part_inquired (Some settlements.Stopped) part = if is_prepared part.state then part_aborted part else part
part_inquired None part = part

-- a part after one of its events
abbrev pub part_after : CommitEvent → Master → Part → Part
part_after (events.Prepare i) master part = part_prepared part
part_after (events.Commit i) master part = part_told_commit master.settled part
part_after (events.Abort i) master part = part_told_abort master part
part_after (events.Inquire i) master part = part_inquired master.settled part
part_after (events.StopPart i) master part = part_lost part
part_after (events.Vote i) master part = part
part_after events.Decide master part = part
part_after events.GiveUp master part = part
part_after (events.Ack i) master part = part
part_after events.StopMaster master part = part

-- ---- all parts

abbrev pub new_parts : ℕ → List Part
new_parts parts = map (λ number. new_part) (range_with_len 0 parts)

abbrev pub part_is_prepared : Option Part → Bool
part_is_prepared None = false
part_is_prepared (Some part) = is_prepared part.state

abbrev pub parts_after : ℕ → CommitEvent → Master → List Part → Option Part → List Part
parts_after number event master parts None = parts
parts_after number event master parts (Some part) = slice_set parts number (part_after event master part)

-- ---- the coordinator and its parts

-- the enlistment that stands for the part of this number
abbrev pub enlist_of : ℕ → Enlist
enlist_of number = record { site = 1; epoch = 1; number = number }

abbrev pub new_play : ℕ → Play
new_play parts = record {
  coordinator = map silent_part (map enlist_of (range_with_len 0 parts));
  master = record { settled = None; gave_up = false };
  parts = new_parts parts;
}

abbrev pub master_settled : Settlement → Master → Master
master_settled settlement master = record master { settled = option_or master.settled (Some settlement) }

abbrev pub play_settled : Settlement → Play → Play
play_settled settlement play = record play { master = master_settled settlement play.master }

abbrev pub play_voted : ℕ → Play → Play
play_voted number play =
    if part_is_prepared (slice_get play.parts number)
    then record play { coordinator = map (with_vote (enlist_of number)) play.coordinator }
    else play

abbrev pub play_decided : Play → Play
play_decided play =
    if is_none (first_silent play.coordinator) then play_settled settlements.Decided play else play

abbrev pub play_given_up : Play → Play
play_given_up play = record play {
  master = record { settled = option_or play.master.settled (Some settlements.GivenUp); gave_up = true };
}

abbrev pub play_part_stepped : ℕ → CommitEvent → Play → Play
play_part_stepped number event play = record play {
  parts = parts_after number event play.master play.parts (slice_get play.parts number);
}

abbrev pub play_after : CommitEvent → Play → Play
play_after (events.Vote i) play = play_voted i play
play_after events.Decide play = play_decided play
play_after events.GiveUp play = play_given_up play
play_after events.StopMaster play = play_settled settlements.Stopped play
play_after (events.Ack i) play = play
play_after (events.Prepare i) play = play_part_stepped i (events.Prepare i) play
play_after (events.Commit i) play = play_part_stepped i (events.Commit i) play
play_after (events.Abort i) play = play_part_stepped i (events.Abort i) play
play_after (events.Inquire i) play = play_part_stepped i (events.Inquire i) play
play_after (events.StopPart i) play = play_part_stepped i (events.StopPart i) play
