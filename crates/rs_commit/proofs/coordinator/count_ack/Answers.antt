use Rattle.std.proofs.Common.{◌≡◌, sym, ap, ◌∙◌, arith, set}
use Rattle.std.proofs.lemmas.List.Edits.{map_over_more}
use Rattle.rs_commit.specs.Coordinator.{with_ack}
use Rattle.rs_commit.proofs.coordinator.count_ack.Goals as goal

pub loop-part-preserved : goal.loop-part-preserved
loop-part-preserved c =
    ap (λ part. set c.loop-part.parts c.loop-part.part-index part) (c.acked_by.ensures ∙ ap (with_ack c.args.from.now) (sym c.part-item.is))
    ∙ map_over_more (with_ack c.args.from.now) c.args.parts.now c.loop-part.parts c.loop-part.part-index c.part-item.result (omega arith) c.loop-part.invariant c.part-item.is
