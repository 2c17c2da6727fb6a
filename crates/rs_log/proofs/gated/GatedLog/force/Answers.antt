use Rattle.std.proofs.Common.{◌≢◌, ◌+◌, ◌<◌, ◌^◌, true≢false, List, ℕ, [], ◌∷◌, ◌++◌, length, ap, ◌∙◌, subst, sym}
use Rattle.rs_log.specs.Format.{Item, batch_bytes}
use Rattle.rs_log.proofs.Gains.{no_call, force_keeps, force_gains}
use Rattle.rs_log.proofs.gated.GatedLog.force.Goals as goal

pub returns-then-is_empty-clause-stop : goal.returns-then-is_empty-clause-stop
returns-then-is_empty-clause-stop g c = no_call c.args.self.now.tail _ c.args.self.now.gate

pub returns-in_err-batch-clause-stop : goal.returns-in_err-batch-clause-stop
returns-in_err-batch-clause-stop g c = no_call c.args.self.now.tail _ c.args.self.now.gate

pub returns-in_err-gate-clause-stop : goal.returns-in_err-gate-clause-stop
returns-in_err-gate-clause-stop g c = no_call c.args.self.now.tail _ c.args.self.now.gate

pub returns-in_err-write_batch-clause-stop : goal.returns-in_err-write_batch-clause-stop
returns-in_err-write_batch-clause-stop g c =
    let is = c.as_slice-2.ensures ∙ c.in_ok-batch.ensures.batch ∙ ap (λ (items : List Item). batch_bytes items ++ 0 ∷ []) c.as_slice.ensures in
    let some : c.args.self.now.tail ≢ [] = λ e. true≢false (sym (c.is_empty.ensures.1 e) ∙ c.if-is_empty.false) in
    let short = subst (λ (bytes : List ℕ). length bytes < 2 ^ 63) (sym c.as_slice-2.ensures) c.in_ok-batch.ensures.fits in
    force_keeps c.write_batch.result c.args.self.now.tail c.as_slice-2.result.now _ _ c.args.self.now.gate some is short c.write_batch.ensures.calls

pub returns-clause-stop : goal.returns-clause-stop
returns-clause-stop g c =
    let is = c.as_slice-2.ensures ∙ c.in_ok-batch.ensures.batch ∙ ap (λ (items : List Item). batch_bytes items ++ 0 ∷ []) c.as_slice.ensures in
    let some : c.args.self.now.tail ≢ [] = λ e. true≢false (sym (c.is_empty.ensures.1 e) ∙ c.if-is_empty.false) in
    let short = subst (λ (bytes : List ℕ). length bytes < 2 ^ 63) (sym c.as_slice-2.ensures) c.in_ok-batch.ensures.fits in
    force_keeps c.write_batch.result c.args.self.now.tail c.as_slice-2.result.now _ _ c.args.self.now.gate some is short c.write_batch.ensures.calls

pub returns-clause-stable : goal.returns-clause-stable
returns-clause-stable g c =
    let is = c.as_slice-2.ensures ∙ c.in_ok-batch.ensures.batch ∙ ap (λ (items : List Item). batch_bytes items ++ 0 ∷ []) c.as_slice.ensures in
    let some : c.args.self.now.tail ≢ [] = λ e. true≢false (sym (c.is_empty.ensures.1 e) ∙ c.if-is_empty.false) in
    let short = subst (λ (bytes : List ℕ). length bytes < 2 ^ 63) (sym c.as_slice-2.ensures) c.in_ok-batch.ensures.fits in
    let gate = c.in_ok-gate.ensures.gate ∙ ap (λ (n : ℕ). c.args.self.now.gate + n) (c.len.ensures ∙ ap length (sym c.as_slice-2.ensures)) in
    force_gains c.in_ok-write_batch.field-0 c.args.self.now.tail c.as_slice-2.result.now _ _ c.args.self.now.gate c.in_ok-gate.gate some is short gate c.in_ok-write_batch.ensures.calls
