use Rattle.std.proofs.Common.{◌≡◌, ◌++◌, drop}
use Rattle.rs_log.specs.Format.{items_bytes}
use Rattle.rs_log.proofs.batch.encode_items.Given as goal

abbrev pub invariant-loop-item : goal.invariant-loop-item
invariant-loop-item l = l.bytes ++ items_bytes (drop l.item-index l.items) ≡ items_bytes l.items
