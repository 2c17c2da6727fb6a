use Rattle.std.proofs.Common.{[], ◌∷◌, length, inl, inr, arith}
use Rattle.rs_disk.specs.Disk.{settled}
use Rattle.rs_log.specs.Calls.{force_calls}
use Rattle.rs_log.specs.Laws.{at_rest, front}
use Rattle.rs_log.proofs.Forces.{force_good, Kept}
use Rattle.rs_log.proofs.Stops.{some_good, one_failed_good}
use Rattle.rs_log.proofs.laws.forces_keep_items.Goals as goal

pub returns : goal.returns
returns c batches [] more image fits fit run left = absurd (omega (arith, fit.0))
returns c batches (item ∷ items) more image fits fit (inl run) left = some_good (Kept batches item items fits fit) (settled (at_rest batches)) (force_calls (length (front batches)) (item ∷ items)) more image (force_good batches item items fits fit) run left
returns c batches (item ∷ items) more image fits fit (inr run) left = one_failed_good (Kept batches item items fits fit) (settled (at_rest batches)) (force_calls (length (front batches)) (item ∷ items)) more image (force_good batches item items fits fit) run left
