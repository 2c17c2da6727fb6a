-- What a coordinator knows: its parts in the order of enlisting, and which of them voted and acknowledged.
use Rattle.std.specs.Prelude.{Bool, true, false, not, ◌&&◌, ◌||◌, ◌==◌, List, map, find, option_map, Option, if◌then◌else◌}
use Rattle.std.specs.List.{list_all, list_any}
use Rattle.rs_base.specs.declared.txn.Enlist.{Enlist}
use Rattle.rs_commit.specs.declared.coordinator.PartState.{PartState}
use Rattle.rs_commit.specs.declared.coordinator.Voted.{Voted}
use Rattle.rs_commit.specs.declared.coordinator.Voted.TheVariants as votes
use Rattle.rs_commit.specs.declared.coordinator.Acked.{Acked}
use Rattle.rs_commit.specs.declared.coordinator.Acked.TheVariants as acks

-- two names of one enlistment
abbrev pub is_same : Enlist → Enlist → Bool
is_same one other = one.site == other.site && (one.epoch == other.epoch && one.number == other.number)

-- a part that was heard of nothing
abbrev pub silent_part : Enlist → PartState
silent_part part = record { enlist = part; voted = false; acked = false }

-- a part, once the vote of `from` is counted
abbrev pub with_vote : Enlist → PartState → PartState
with_vote from part = record part { voted = part.voted || is_same part.enlist from }

-- a part, once the acknowledgement of `from` is counted
abbrev pub with_ack : Enlist → PartState → PartState
with_ack from part = record part { acked = part.acked || is_same part.enlist from }

abbrev pub have_all_voted : List PartState → Bool
have_all_voted parts = list_all (λ part. part.voted) parts

abbrev pub have_all_acked : List PartState → Bool
have_all_acked parts = list_all (λ part. part.acked) parts

abbrev pub vote_answer : List PartState → Voted
vote_answer parts = if have_all_voted parts then votes.All else votes.More

abbrev pub ack_answer : List PartState → Acked
ack_answer parts = if have_all_acked parts then acks.All else acks.More

-- the first part without a vote
abbrev pub first_silent : List PartState → Option Enlist
first_silent parts = option_map (λ part. part.enlist) (find (λ part. not part.voted) parts)

abbrev pub has_voted : Enlist → List PartState → Bool
has_voted part parts = list_any (λ state. is_same state.enlist part && state.voted) parts

abbrev pub has_acked : Enlist → List PartState → Bool
has_acked part parts = list_any (λ state. is_same state.enlist part && state.acked) parts
