use Rattle.std.proofs.Common.{[], ◌∷◌, ◌++◌, ◌==◌, not, rules}
use Rattle.std.specs.Prelude.{bytes_eq}
use Rattle.std.specs.List.{list_any}
use Rattle.rs_base.specs.declared.reply.Denial.TheVariants as denials
use Rattle.rs_ast.specs.declared.change.Set.{Set}
use Rattle.rs_bind_change.specs.Denials.{term_tests, more_tests, expr_fits}
use Rattle.rs_scope.specs.Denials.{test}
use Rattle.rs_scope.specs.Scope.{named_count, unqualified, column_kind}
use Rattle.rs_scope.proofs.FirstDenials.{first_or_other}
use Rattle.rs_bind_change.proofs.change_denials.set_denial.Goals as goal

pub returns : goal.returns
returns c =
    let scope = c.args.scope.now in
    let params = c.args.params.now in
    let set = c.args.set.now in
    let absent = test (named_count scope (unqualified set.column) == 0) denials.NoColumn in
    let again = test (list_any (λ (other : Set). bytes_eq other.column set.column) c.args.before.now) denials.TwoColumns in
    let first = term_tests scope params set.expr.first in
    let more = more_tests scope params set.expr.more in
    let kinds = test (not (expr_fits scope params (column_kind scope (unqualified set.column)) set.expr.first set.expr.more)) denials.WrongType in
    let two = first_or_other (absent ∷ again ∷ []) first c.set_column_denial.result c.or_else.result c.set_column_denial.ensures (search rules) in
    let three = first_or_other (absent ∷ again ∷ first) more c.or_else.result c.or_else-2.result two (search rules) in
    first_or_other (absent ∷ again ∷ first ++ more) (kinds ∷ []) c.or_else-2.result c.or_else-3.result three (search rules)
