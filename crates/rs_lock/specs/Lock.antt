-- The locks of one resource.
use Rattle.std.specs.Prelude.{◌≡◌, ℕ, Bool, false, ◌&&◌, ◌||◌, ◌==◌, not, List, [], ◌∷◌, ◌++◌, length, Option, Some, None, if◌then◌else◌}
use Rattle.std.specs.List.{insert, position_or_len}
use Rattle.rs_base.specs.declared.txn.Enlist.{Enlist}
use Rattle.rs_lock.specs.declared.claim.Claim.{Claim}
use Rattle.rs_lock.specs.declared.verdict.Verdict.{Verdict}
use Rattle.rs_lock.specs.declared.verdict.Verdict.TheVariants as verdicts
use Rattle.rs_lock.specs.Claims.{has, other_than, without, is_refused, is_covered}

-- the claims that hold the resource, in the order of granting, and those that wait for it, in the order in which they are
-- to be granted
pub record Lock : Type 0 where
  pub holders : List Claim
  pub queue : List Claim

-- of a resource that nobody holds or waits for
abbrev pub unlocked : Lock
unlocked = record { holders = []; queue = [] }

abbrev pub is_free : Lock → Bool
is_free lock = length lock.holders == 0 && length lock.queue == 0

-- ---- an ask

-- somebody waits, and the enlistment doesn't hold the resource
abbrev pub is_behind : Claim → Lock → Bool
is_behind claim lock = not (has claim.who lock.holders) && not (length lock.queue == 0)

-- another holder conflicts, or the claim is behind others
abbrev pub has_to_wait : Claim → Lock → Bool
has_to_wait claim lock = is_refused claim lock.holders || is_behind claim lock

-- no other holder conflicts, and nobody waits
abbrev pub may_hold : Claim → Lock → Bool
may_hold claim lock = not (is_refused claim lock.holders) && length lock.queue == 0

abbrev pub blocked_by : Option Enlist → Verdict
blocked_by None = verdicts.Free
blocked_by (Some holder) = verdicts.Blocked holder

-- Covered by what the enlistment holds; else, if it has to wait, blocked by the first holder other than the enlistment; else
-- free to be granted.
abbrev pub verdict : Claim → Lock → Verdict
verdict claim lock =
    if is_covered claim lock.holders then verdicts.Covered
    else if has_to_wait claim lock then blocked_by (other_than claim.who lock.holders)
    else verdicts.Free

-- the claim holds the resource, in the place of the enlistment's earlier one if there is one
abbrev pub granted : Claim → List Claim → List Claim
granted claim holders = without claim.who holders ++ claim ∷ []

-- how many claims at the queue's front are upgrades, claims of holders
abbrev pub upgrades : Lock → ℕ
upgrades lock = position_or_len (λ queued. not (has queued.who lock.holders)) lock.queue

-- An upgrade stands after the earlier upgrades and before all others; any other claim stands last.
abbrev pub place : Claim → Lock → ℕ
place claim lock = if has claim.who lock.holders then upgrades lock else length lock.queue

abbrev pub enqueued : Claim → Lock → Lock
enqueued claim lock = record lock { queue = insert lock.queue (place claim lock) claim }

-- ---- a release

-- The queue's first claim is granted while no other holder conflicts with it. With the enlistments that were granted before,
-- and those that are granted now after them.
abbrev pub settled : List Claim → List Claim → List Enlist → Lock × List Enlist
settled holders [] before = (record { holders = holders; queue = [] }, before)
settled holders (claim ∷ queue) before =
    if is_refused claim holders then (record { holders = holders; queue = claim ∷ queue }, before)
    else settled (granted claim holders) queue (before ++ claim.who ∷ [])

-- the enlistment leaves the holders and the queue, and then the queue's first claims are granted
abbrev pub released : Enlist → Lock → List Enlist → Lock × List Enlist
released who lock before = settled (without who lock.holders) (without who lock.queue) before

-- the queue's first claim, if no other holder conflicts with it
abbrev pub next_grant : List Claim → List Claim → Option Claim
next_grant holders [] = None
next_grant holders (claim ∷ queue) = if is_refused claim holders then None else Some claim

-- the queue's first claim was granted
pub record IsGranted (claim : Claim) (old new : Lock) : Type 0 where
  pub first : old.queue ≡ claim ∷ new.queue
  pub holders : new.holders ≡ granted claim old.holders
  pub free : is_refused claim old.holders ≡ false

-- ---- a tick

-- the enlistment no longer waits
abbrev pub dequeued : Enlist → Lock → Lock
dequeued who lock = record lock { queue = without who lock.queue }
