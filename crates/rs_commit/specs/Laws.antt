-- The laws of the commit of one transaction. `happened` are its events, the latest first.
use Rattle.std.specs.Prelude.{◌≡◌, ℕ, ◌<◌, Bool, true, false, List, [], ◌∷◌, ◌++◌, map, reverse, slice_get, ◌⊎◌, Option, Some, None}
use Rattle.std.specs.List.{list_any}
use Rattle.rs_base.specs.declared.txn.Enlist.{Enlist}
use Rattle.rs_commit.specs.declared.coordinator.PartState.{PartState}
use Rattle.rs_commit.specs.declared.event.CommitEvent.{CommitEvent}
use Rattle.rs_commit.specs.declared.event.CommitEvent.TheVariants as events
use Rattle.rs_commit.specs.declared.event.Decision.{Decision}
use Rattle.rs_commit.specs.declared.event.Decision.TheVariants as decisions
use Rattle.rs_commit.specs.Coordinator.{is_same, silent_part, with_vote, with_ack}
use Rattle.rs_commit.specs.Decisions.{has_stopped, is_dropped, decision}

-- No two parts decide differently.
abbrev pub NoTwoDiffer : Type 0
NoTwoDiffer = (parts one other : ℕ) (happened : List CommitEvent) (x y : Decision)
    → decision parts one happened ≡ Some x → decision parts other happened ≡ Some y → x ≡ y

-- A decision stays, whatever happens later.
abbrev pub DecisionStays : Type 0
DecisionStays = (parts part : ℕ) (later happened : List CommitEvent) (x : Decision)
    → decision parts part happened ≡ Some x → decision parts part (later ++ happened) ≡ Some x

-- this event came when these had happened
abbrev pub Came : CommitEvent → List CommitEvent → List CommitEvent → Type 0
Came event older [] = ⊥
Came event older (latest ∷ before) = ((event ≡ latest) × (older ≡ before)) ⊎ Came event older before

-- Before this moment a Prepare reached the part, before which its site hadn't stopped and no Abort of a master that gave
-- up had come; and after it the part's vote came.
pub record PreparedAndVoted (part : ℕ) (moment : List CommitEvent) : Type 0 where
  pub before_vote : List CommitEvent
  pub voted : Came (events.Vote part) before_vote moment
  pub before_prepare : List CommitEvent
  pub prepared : Came (events.Prepare part) before_prepare before_vote
  pub not_stopped : has_stopped part before_prepare ≡ false
  pub not_dropped : is_dropped part before_prepare ≡ false

-- Where a part decided to commit, the master decided before; and before that each part prepared and then voted.
pub record CommittedByAll (parts : ℕ) (happened : List CommitEvent) : Type 0 where
  pub before_decide : List CommitEvent
  pub master_decided : Came events.Decide before_decide happened
  pub each : (part : ℕ) → part < parts → PreparedAndVoted part before_decide

abbrev pub CommitNeedsEachVote : Type 0
CommitNeedsEachVote = (parts part : ℕ) (happened : List CommitEvent)
    → decision parts part happened ≡ Some decisions.Commit → CommittedByAll parts happened

-- of these decisions no two differ
abbrev pub NoneDiffer : List (Option Decision) → Type 0
NoneDiffer decided = (one other : ℕ) (x y : Decision)
    → slice_get decided one ≡ Some (Some x) → slice_get decided other ≡ Some (Some y) → x ≡ y

-- if one of these decisions is Commit, each part voted for it; the events are in their order
abbrev pub CommitIsVotedFor : ℕ → List CommitEvent → List (Option Decision) → Type 0
CommitIsVotedFor parts events decided = (part : ℕ)
    → slice_get decided part ≡ Some (Some decisions.Commit) → CommittedByAll parts (reverse events)

-- ---- what a coordinator counts

-- a message that a coordinator counts
pub data Counted : Type 0 where
  Vote : Enlist → Counted
  Ack : Enlist → Counted

abbrev pub counts : Counted → PartState → PartState
counts (Vote from) part = with_vote from part
counts (Ack from) part = with_ack from part

-- a coordinator of these parts after these messages, the latest first
abbrev pub coordinator_after : List Counted → List Enlist → List PartState
coordinator_after [] parts = map silent_part parts
coordinator_after (latest ∷ before) parts = map (counts latest) (coordinator_after before parts)

abbrev pub is_vote_of : Enlist → Counted → Bool
is_vote_of part (Vote from) = is_same part from
is_vote_of part (Ack from) = false

abbrev pub is_ack_of : Enlist → Counted → Bool
is_ack_of part (Vote from) = false
is_ack_of part (Ack from) = is_same part from

-- what is known of a part after these messages
abbrev pub known : List Counted → Enlist → PartState
known messages part = record {
  enlist = part;
  voted = list_any (is_vote_of part) messages;
  acked = list_any (is_ack_of part) messages;
}

-- After any messages a part has voted exactly if a vote of its own came, and likewise acknowledged.
abbrev pub CoordinatorCounts : Type 0
CoordinatorCounts = (messages : List Counted) (parts : List Enlist)
    → coordinator_after messages parts
    ≡ map (known messages) parts
