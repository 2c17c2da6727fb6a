use Rattle.std.proofs.Common.{length}
use Rattle.std.specs.Option.{option_copied}
use Rattle.rs_plan.specs.Over.{IsOver}
use Rattle.rs_plan.specs.Params.{HasParamsBelow}
use Rattle.rs_bind.specs.Entries.{kinds_given}
use Rattle.rs_bind.proofs.Outcomes.{outcome_is_over, both_of_bound}
use Rattle.rs_bind.proofs.statements.bind.Goals as goal

pub returns-clause-over : goal.returns-clause-over
returns-clause-over c =
    let given = option_copied c.args.values in
    let over = outcome_is_over c.args.stmt.now c.args.entries.now c.args.params.now given c.outcome_over.result
    c.requires.limits c.requires.narrow c.requires.count c.requires.params c.requires.values c.outcome_over.ensures in
    (both_of_bound (λ bound. IsOver bound c.args.entries.now (kinds_given given)) (HasParamsBelow (length c.args.params.now)) c.outcome_over.result over).0

pub returns-clause-params : goal.returns-clause-params
returns-clause-params c =
    let given = option_copied c.args.values in
    let over = outcome_is_over c.args.stmt.now c.args.entries.now c.args.params.now given c.outcome_over.result
    c.requires.limits c.requires.narrow c.requires.count c.requires.params c.requires.values c.outcome_over.ensures in
    (both_of_bound (λ bound. IsOver bound c.args.entries.now (kinds_given given)) (HasParamsBelow (length c.args.params.now)) c.outcome_over.result over).1
