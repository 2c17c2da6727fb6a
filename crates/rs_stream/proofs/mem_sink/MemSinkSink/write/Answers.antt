use Rattle.std.proofs.Common.{◌≡◌, ℕ, false, Result, Ok, Err, IfErr, IsErrOf, rules, ◌∙◌}
use Rattle.std.proofs.lemmas.Bool.{false≢true}
use Rattle.rs_stream.specs.MemStreams.{fails_next}
use Rattle.rs_base.specs.declared.fault.Fault.{Fault}
use Rattle.rs_base.specs.declared.fault.Fault.TheVariants as faults
use Rattle.rs_stream.proofs.mem_sink.MemSinkSink.write.Goals as goal

-- running out of memory is no failure of the device
not_failed : (r : Result ℕ Fault) → IfErr r (λ fault. fault ≡ faults.NoMemory) → IsErrOf r faults.Failed → ⊥
not_failed (Ok n) want failed = cc
not_failed (Err fault) want failed = cc

pub returns-clause-failed : goal.returns-clause-failed
returns-clause-failed c =
    let not_next : false ≡ fails_next c.args.self.now.fail c.args.self.now.calls = search rules in
    (λ failed. absurd (not_failed c.write.result c.write.ensures.want failed), λ fails. absurd (false≢true (not_next ∙ fails)))
