use Rattle.std.proofs.Common.{◌++◌, rules}
use Rattle.std.specs.Prelude.{flat_map}
use Rattle.rs_ast.specs.declared.select.Key.{Key}
use Rattle.rs_bind_query.specs.Denials.{items_tests, key_tests}
use Rattle.rs_scope.specs.Denials.{clauses_tests, column_tests}
use Rattle.rs_scope.proofs.FirstDenials.{first_or_other}
use Rattle.rs_bind_query.proofs.select_denials.names_denial.Goals as goal

pub returns : goal.returns
returns c =
    let items = items_tests c.args.scope.now c.args.select.now.items in
    let clauses = clauses_tests c.args.scope.now c.args.params.now c.args.select.now.clauses in
    let group = flat_map (column_tests c.args.scope.now) c.args.select.now.group in
    let order = flat_map (λ (key : Key). key_tests c.args.scope.now key.by) c.args.select.now.order in
    let two = first_or_other items clauses c.items_denial.result c.or_else.result c.items_denial.ensures (search rules) in
    let three = first_or_other (items ++ clauses) group c.or_else.result c.or_else-2.result two (search rules) in
    first_or_other (items ++ clauses ++ group) order c.or_else-2.result c.or_else-3.result three (search rules)
