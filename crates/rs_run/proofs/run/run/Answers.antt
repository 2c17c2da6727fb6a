use Rattle.std.proofs.Common.{List, ℕ, sym, subst, ◌∙◌}
use Rattle.std.specs.Io.KnownBytes.{Appends}
use Rattle.rs_stream.specs.Streams.{AppendsPrefix}
use Rattle.rs_run.proofs.RunLaws.{writes_prefix, writes_refusal, complete_status, refused_status}
use Rattle.rs_run.proofs.run.run.Goals as goal

pub returns-in-Ok-write_whole-clause-complete : goal.returns-in-Ok-write_whole-clause-complete
returns-in-Ok-write_whole-clause-complete g c = λ replay holds source sink. rw c.status.ensures (complete_status _ _ _ _ _ c.in-Ok.ensures.found replay holds)

pub returns-in-Ok-write_whole-clause-refused : goal.returns-in-Ok-write_whole-clause-refused
returns-in-Ok-write_whole-clause-refused g c = λ replay holds source sink. rw c.status.ensures (refused_status _ _ _ _ _ c.in-Ok.ensures.found replay holds)

pub returns-in-Err-Failed-write_whole-clause-sink : goal.returns-in-Err-Failed-write_whole-clause-sink
returns-in-Err-Failed-write_whole-clause-sink g c =
    let old = g.K.Sink.written c.args.sink.now in
    let new = g.K.Sink.written c.write_whole.new.sink in
    let faults = rw c.in-Err-Failed-write_whole.field-0-is at c.in-Err-Failed-write_whole.ensures.faults in
    λ status. (faults, writes_prefix _ _ _ _ _ _ _ c.in-Ok.ensures.found (subst (λ (bs : List ℕ). AppendsPrefix old new bs) c.as_slice.ensures c.in-Err-Failed-write_whole.ensures.prefix))

pub returns-clause-memory : goal.returns-clause-memory
returns-clause-memory g c =
    let old = g.K.Sink.written c.args.sink.now in
    let new = g.K.Sink.written c.write_whole.new.sink in
    λ status. writes_prefix _ _ _ _ _ _ _ c.in-Ok.ensures.found (subst (λ (bs : List ℕ). AppendsPrefix old new bs) c.as_slice.ensures c.in-Err-NoMemory-write_whole.ensures.prefix)

pub returns-in-Ok-write_whole-clause-no_source : goal.returns-in-Ok-write_whole-clause-no_source
returns-in-Ok-write_whole-clause-no_source g c =
    let old = g.K.Sink.written c.args.sink.now in
    let new = g.K.Sink.written c.write_whole.new.sink in
    λ status. writes_refusal _ _ _ old new _ _ c.in-Ok.ensures.found (sym c.status.ensures ∙ status) (subst (λ (bs : List ℕ). Appends old new bs) c.as_slice.ensures c.in-Ok-write_whole.ensures.whole)
