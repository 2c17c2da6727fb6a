use Rattle.std.proofs.Common.{[], ◌∷◌, ◌++◌, not, ap, ◌∙◌, append_assoc, rules}
use Rattle.rs_base.specs.declared.reply.Denial.TheVariants as denials
use Rattle.rs_bind_query.specs.Denials.{all_differ, names_tests, grouping_test, keys_tests}
use Rattle.rs_scope.specs.Denials.{test, first_denial}
use Rattle.rs_scope.proofs.FirstDenials.{first_or_other}
use Rattle.rs_bind_query.proofs.select_denials.select_denial.Goals as goal

pub returns : goal.returns
returns c =
    let alias = test (not (all_differ c.args.aliases.now)) denials.TwoColumns in
    let names = names_tests c.args.scope.now c.args.params.now c.args.select.now in
    let grouping = grouping_test c.args.scope.now c.args.select.now in
    let keys = keys_tests c.args.scope.now c.args.select.now in
    let one = c.denial_if.ensures ∙ ap (λ b. first_denial (test (not b) denials.TwoColumns ∷ [])) c.all_differ.ensures in
    let two = first_or_other (alias ∷ []) names c.denial_if.result c.or_else.result one (search rules) in
    let three = first_or_other (alias ∷ names) (grouping ∷ []) c.or_else.result c.or_else-2.result two (search rules) in
    let four = first_or_other (alias ∷ names ++ grouping ∷ []) keys c.or_else-2.result c.or_else-3.result three (search rules) in
    four ∙ ap first_denial (append_assoc (alias ∷ names) (grouping ∷ []) keys)
