use Rattle.std.proofs.lemmas.Result.{on_ok_weaker}
use Rattle.rs_codec.specs.Encoding.{IsCount}
use Rattle.rs_codec.specs.Written.{count_bytes}
use Rattle.rs_codec.proofs.Writers.{once_count, written_count, puts_written}
use Rattle.rs_codec.proofs.put.put_count.Goals as goal

pub returns-clause-written : goal.returns-clause-written
returns-clause-written c =
    on_ok_weaker c.extend.result (λ e. puts_written IsCount c.args.out.now c.extend.new.self (count_bytes c.args.n) c.args.n once_count (written_count c.args.n c.ranges.n.fits)
    (record { encoding = _; encoded = c.write_groups-len.ensures.encoded; parts = e })) c.extend.ensures.ok
