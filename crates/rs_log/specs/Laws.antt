-- What a stop leaves of a log.
use Rattle.std.specs.Prelude.{◌≡◌, ◌⊎◌, ℕ, ◌^◌, ◌<◌, List, [], ◌∷◌, ◌++◌, length, ⊤}
use Rattle.rs_disk.specs.declared.call.Act.{Act}
use Rattle.rs_disk.specs.Disk.{settled}
use Rattle.rs_disk.specs.Images.{MayLeave}
use Rattle.rs_log.specs.Format.{Item, header, items_bytes, batch_bytes, found}
use Rattle.rs_log.specs.Format.Found.{Log}
use Rattle.rs_log.specs.Calls.{force_calls, opening_calls}
use Rattle.rs_log.specs.Runs.{SomeDone, OneFailed}

-- open batches, each after its gate
abbrev pub batches_bytes : List (List Item) → List ℕ
batches_bytes [] = []
batches_bytes (batch ∷ batches) = 1 ∷ batch_bytes batch ++ batches_bytes batches

abbrev pub all_items : List (List Item) → List Item
all_items [] = []
all_items (batch ∷ batches) = batch ++ all_items batches

-- the file up to its last gate
abbrev pub front : List (List Item) → List ℕ
front batches = header ++ batches_bytes batches

-- the file of a log at rest
abbrev pub at_rest : List (List Item) → List ℕ
at_rest batches = front batches ++ 0 ∷ []

-- each batch has items, and fits
abbrev pub Fits : List Item → Type 0
Fits batch = (0 < length (items_bytes batch)) × (length (items_bytes batch) < 2 ^ 63)

abbrev pub AllFit : List (List Item) → Type 0
AllFit [] = ⊤
AllFit (batch ∷ batches) = Fits batch × AllFit batches

-- an opening finds the items that were written
abbrev pub WrittenIsRead : Type 0
WrittenIsRead = (batches : List (List Item)) → AllFit batches → found (at_rest batches) ≡ Log (all_items batches) (length (front batches))

-- A stop in any device call of a force, whether the calls are done or one fails, leaves a file in which an opening finds
-- the stable items, with the tail or without it.
abbrev pub ForceKeepsItems : Type 0
ForceKeepsItems = (batches : List (List Item)) (tail : List Item) (more : List Act) (image : List ℕ) → AllFit batches → Fits tail
    → SomeDone (settled (at_rest batches)) (force_calls (length (front batches)) tail) more ⊎ OneFailed (settled (at_rest batches)) (force_calls (length (front batches)) tail) more
    → MayLeave (settled (at_rest batches)) more image
    → (gate : ℕ) × ((found image ≡ Log (all_items batches) gate) ⊎ (found image ≡ Log (all_items batches ++ tail) gate))

-- A stop in any device call of an opening of a synced file, after its size and read, leaves a file in which an opening
-- finds the same items.
abbrev pub OpeningKeepsItems : Type 0
OpeningKeepsItems = (bytes : List ℕ) (items : List Item) (gate : ℕ) (more : List Act) (image : List ℕ) → length bytes < 2 ^ 63 → found bytes ≡ Log items gate
    → SomeDone (settled bytes) (opening_calls bytes) more ⊎ OneFailed (settled bytes) (opening_calls bytes) more → MayLeave (settled bytes) more image
    → (last : ℕ) × (found image ≡ Log items last)
