use Rattle.std.proofs.Common.{◌+◌, [], ◌∷◌, rules}
use Rattle.std.specs.Prelude.{⊤, Err}
use Rattle.rs_disk.specs.declared.call.Call.TheVariants as calls
use Rattle.rs_log.proofs.Runs.{goes_on, ends, last, left_after}
use Rattle.rs_log.proofs.gated.write_batch.Goals as goal

pub returns-in_err-sync-clause-calls : goal.returns-in_err-sync-clause-calls
returns-in_err-sync-clause-calls g c =
    let open_gate = calls.Write c.args.gate (1 ∷ []) in
    let run =
    (goes_on {X = ⊤} (Err c.in_err-sync.field-0.0) (calls.Write (c.args.gate + 1) c.args.batch.now) (calls.Sync ∷ open_gate ∷ calls.Sync ∷ []) _ _ _ c.in_ok-write_at.ensures.call
    (ends ⊤ c.in_err-sync.field-0.0 calls.Sync (open_gate ∷ calls.Sync ∷ []) _ _ c.in_err-sync.ensures.call)) in
    search rules

pub returns-in_err-write_at-2-clause-calls : goal.returns-in_err-write_at-2-clause-calls
returns-in_err-write_at-2-clause-calls g c =
    let open_gate = calls.Write c.args.gate (1 ∷ []) in
    let fault = c.in_err-write_at-2.field-0.0 in
    let run =
    (goes_on {X = ⊤} (Err fault) (calls.Write (c.args.gate + 1) c.args.batch.now) (calls.Sync ∷ open_gate ∷ calls.Sync ∷ []) _ _ _ c.in_ok-write_at.ensures.call
    (goes_on {X = ⊤} (Err fault) calls.Sync (open_gate ∷ calls.Sync ∷ []) _ _ _ c.in_ok-sync.ensures.call
    (ends ⊤ fault open_gate (calls.Sync ∷ []) _ _ c.in_err-write_at-2.ensures.call))) in
    search rules

pub returns-clause-calls : goal.returns-clause-calls
returns-clause-calls g c =
    let open_gate = calls.Write c.args.gate (1 ∷ []) in
    goes_on c.sync-2.result (calls.Write (c.args.gate + 1) c.args.batch.now) (calls.Sync ∷ open_gate ∷ calls.Sync ∷ []) _ _ _ c.in_ok-write_at.ensures.call
    (goes_on c.sync-2.result calls.Sync (open_gate ∷ calls.Sync ∷ []) _ _ _ c.in_ok-sync.ensures.call
    (goes_on c.sync-2.result open_gate (calls.Sync ∷ []) _ _ _ c.in_ok-write_at-2.ensures.call
    (last c.sync-2.result calls.Sync _ _ c.sync-2.ensures.call)))

pub returns-in_err-write_at-2-clause-steady : goal.returns-in_err-write_at-2-clause-steady
returns-in_err-write_at-2-clause-steady g c = λ past is within was.
    let open_gate = calls.Write c.args.gate (1 ∷ []) in
    let first = c.in_ok-write_at.ensures.steady was past is within.0 in
    let next = left_after (calls.Write (c.args.gate + 1) c.args.batch.now) (calls.Sync ∷ open_gate ∷ calls.Sync ∷ []) _ _ past is c.in_ok-write_at.ensures.call within in
    let second = c.in_ok-sync.ensures.steady first.0 next.0 next.1 next.2.0 in
    let later = left_after calls.Sync (open_gate ∷ calls.Sync ∷ []) _ _ next.0 next.1 c.in_ok-sync.ensures.call next.2 in
    let third = c.in_err-write_at-2.ensures.steady second.0 later.0 later.1 later.2.0 in
    search rules
