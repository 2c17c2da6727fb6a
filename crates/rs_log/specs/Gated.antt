-- A log over a disk, as the course of the disk tells it.
use Rattle.std.specs.Prelude.{◌≡◌, ◌⊎◌, ℕ, List, ◌++◌, length, Option, Some, None, IfSome, Result, IsErrOf}
use Rattle.rs_base.specs.declared.fault.Fault.{Fault}
use Rattle.rs_base.specs.declared.fault.Fault.TheVariants as faults
use Rattle.rs_disk.specs.declared.call.Act.{Act}
use Rattle.rs_disk.specs.Answers.{Course}
use Rattle.rs_disk.specs.Disk.{content_of, settled, state_of}
use Rattle.rs_disk.specs.Images.{MayLeave}
use Rattle.rs_log.specs.Format.{Item, Found, found}
use Rattle.rs_log.specs.Format.Found.{Log, NotALog}
use Rattle.rs_log.specs.Laws.{AllFit, all_items, at_rest, front}

-- the disk has a log of these items at rest, all of it synced, with the last gate at this offset
pub record IsAtRest (past : List Act) (items : List Item) (gate : ℕ) : Type 0 where
  pub batches : List (List Item)
  pub fit : AllFit batches
  pub synced : state_of past ≡ settled (at_rest batches)
  pub same_items : all_items batches ≡ items
  pub same_gate : length (front batches) ≡ gate

-- the stable items, if the disk reports its course
abbrev pub items_found : Found → Option (List Item)
items_found (NotALog at) = None
items_found (Log items gate) = Some items

abbrev pub stable_of : Course → Option (List Item)
stable_of None = None
stable_of (Some past) = items_found (found (content_of past))

-- the log may be used: if the disk reports its course, it is a log at rest
abbrev pub MayBeUsed : Course → ℕ → Type 0
MayBeUsed course gate = IfSome course (λ past. (items : List Item) × IsAtRest past items gate)

-- the stable items are these more
abbrev pub Gains : List Item → Course → Course → ℕ → ℕ → Type 0
Gains tail old new was gate = IfSome old (λ past. (items : List Item) → IsAtRest past items was → (now : List Act) × (new ≡ Some now) × IsAtRest now (items ++ tail) gate)

-- A stop at any time from the one course to the other leaves a file in which an opening finds these items, with the tail
-- or without it.
abbrev pub KeepsAlways : List Item → Course → Course → ℕ → Type 0
KeepsAlways tail old new gate = IfSome old (λ past. (items : List Item) → IsAtRest past items gate → (more : List Act) × (new ≡ Some (past ++ more))
    × ((image : List ℕ) → MayLeave (state_of past) more image → (last : ℕ) × ((found image ≡ Log items last) ⊎ (found image ≡ Log (items ++ tail) last))))

-- A force over a steady disk that reports its course never fails but for want of memory, and leaves the disk steady.
abbrev pub IsSteadyForce : {X : Type 0} → Result X Fault → Course → Type 0 → Type 0 → Type 0
IsSteadyForce r course was is = IfSome course (λ past. was → is × (IsErrOf r faults.Failed → ⊥))
