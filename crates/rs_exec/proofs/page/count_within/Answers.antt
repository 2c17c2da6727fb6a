use Rattle.std.proofs.Common.{◌≡◌, ◌-◌, ◌^◌, min, length, ap, ◌∙◌, arith}
use Rattle.rs_exec.specs.Pages.{encoded_size, rows_within}
use Rattle.rs_exec.specs.Running.{projected, shipped}
use Rattle.rs_exec.proofs.PageLaws.{count_more}
use Rattle.rs_exec.proofs.page.count_within.Goals as goal

pub loop-row-preserved : goal.loop-row-preserved
loop-row-preserved c =
    let sized : c.encoded_size-size.result ≡ min (encoded_size (projected c.args.columns.now c.row-item.result.1)) (2 ^ 64 - 1)
    = c.encoded_size-size.ensures ∙ ap (λ values. min (encoded_size (projected c.args.columns.now values)) (2 ^ 64 - 1)) c.values.ensures in
    record {
      counted = count_more c.args.columns.now c.args.rows.now c.loop-row.row-index c.loop-row.room (length (rows_within c.args.room (shipped c.args.columns.now c.args.rows.now))) c.encoded_size-size.result c.row-item.result
          c.loop-row-test.true c.row-item.is sized c.loop-row.invariant.low c.if-size-room.false c.loop-row.invariant.counted;
      same = omega (arith, c.loop-row.invariant.same);
      low = omega (arith, c.loop-row.invariant.low);
    }
