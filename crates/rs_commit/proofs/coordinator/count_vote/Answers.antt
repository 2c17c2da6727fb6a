use Rattle.std.proofs.Common.{◌≡◌, sym, ap, ◌∙◌, arith, set}
use Rattle.std.proofs.lemmas.List.Edits.{map_over_more}
use Rattle.rs_commit.specs.Coordinator.{with_vote}
use Rattle.rs_commit.proofs.coordinator.count_vote.Goals as goal

pub loop-part-preserved : goal.loop-part-preserved
loop-part-preserved c =
    ap (λ part. set c.loop-part.parts c.loop-part.part-index part) (c.voted_by.ensures ∙ ap (with_vote c.args.from.now) (sym c.part-item.is))
    ∙ map_over_more (with_vote c.args.from.now) c.args.parts.now c.loop-part.parts c.loop-part.part-index c.part-item.result (omega arith) c.loop-part.invariant c.part-item.is
