use Rattle.std.proofs.Common.{◌≡◌, ◌+◌, true, ◌∷◌, sym, ◌∙◌, arith}
use Rattle.rs_eval.specs.Clauses.{holds}
use Rattle.rs_eval.specs.RowChanges.{matching_count}
use Rattle.rs_eval.proofs.Matching.{matching_more, matching_within}
use Rattle.rs_eval.proofs.row_changes.matching_count.Goals as goal

pub prove-unreachable-requires : goal.prove-unreachable-requires
prove-unreachable-requires c =
    let clauses = c.args.clauses.now in
    let meets : holds clauses c.in-Some.row.now ≡ true = sym c.holds.ensures ∙ c.if-holds.true in
    let so_far : matching_count clauses c.args.rows.now ≡ c.loop-row.count + matching_count clauses (c.in-Some.row.now ∷ c.in-Some.others) = rw c.in-Some.ensures at c.loop-row.invariant in
    omega (arith, so_far, matching_more clauses c.in-Some.row.now c.in-Some.others meets, matching_within clauses c.args.rows.now, c.if-prove.true, c.len.ensures)
