use Rattle.std.proofs.Common.{◌∙◌, arith}
use Rattle.rs_stream.proofs.Streams.{written_more}
use Rattle.rs_stream.proofs.write_all.write_whole.Goals as goal

pub loop-at-preserved : goal.loop-at-preserved
loop-at-preserved g c = record {
  within = omega (arith, c.in_ok-at.ensures.within);
  written = written_more _ _ _ c.args.bytes.now _ c.loop-at.at c.in_ok-at.field-0 c.split_at.ensures.back c.loop-at.invariant.written c.in_ok-at.ensures.bytes;
  faults = c.in_ok-at.ensures.faults ∙ c.loop-at.invariant.faults;
}
