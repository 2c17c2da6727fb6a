use Rattle.std.proofs.Common.{[], ◌∷◌, not, ap, ◌∙◌}
use Rattle.rs_base.specs.declared.reply.Denial.TheVariants as denials
use Rattle.rs_ast.specs.declared.select.Key.{Key}
use Rattle.rs_bind_query.specs.Denials.{names_item}
use Rattle.rs_scope.specs.Denials.{test, first_denial}
use Rattle.rs_bind_query.proofs.OneCause.{one_cause}
use Rattle.rs_bind_query.proofs.select_denials.keys_denial.Goals as goal

pub returns : goal.returns
returns c =
    c.denial_if.ensures ∙ ap (λ b. first_denial (test (not b) denials.NoColumn ∷ [])) c.names_items.ensures
    ∙ one_cause (λ (key : Key). names_item c.args.scope.now c.args.select.now key.by) denials.NoColumn c.args.select.now.order
