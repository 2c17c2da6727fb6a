use Rattle.std.proofs.Common.{ℕ, List, ◌∙◌}
use Rattle.std.proofs.lemmas.Iterator.{YieldsList-from_slice, YieldsList-from_zip}
use Rattle.std.proofs.lemmas.Iterator.Consumers.{YieldsList-end}
use Rattle.rs_base.specs.declared.value.Value.{Value}
use Rattle.rs_bind.specs.Entries.{valued}
use Rattle.rs_scope.proofs.Zipped.{mapped_in_step}
use Rattle.rs_bind.proofs.statements.valued_params.Goals as goal

pub returns : goal.returns
returns c =
    let road = YieldsList-from_zip (YieldsList-from_slice c.args.names.now cc) (YieldsList-from_slice c.args.values.now cc) in
    let all = YieldsList-end road c.loop-name.yielded _ c.loop-name.yielded_by c.next.result c.next.new.self c.in-None.is c.next.ensures.steps in
    c.loop-name.invariant ∙ mapped_in_step (λ (both : List ℕ × Value). valued both.0 both.1) c.loop-name.yielded _ all.0
