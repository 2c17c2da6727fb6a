use Rattle.std.proofs.Common.{[], rules}
use Rattle.rs_bind_change.specs.Denials.{sets_tests}
use Rattle.rs_scope.specs.Denials.{clauses_tests}
use Rattle.rs_scope.proofs.FirstDenials.{first_or_other}
use Rattle.rs_bind_change.proofs.change_denials.update_denial.Goals as goal

pub returns : goal.returns
returns c =
    first_or_other (sets_tests c.args.scope.now c.args.params.now [] c.args.sets.now) (clauses_tests c.args.scope.now c.args.params.now c.args.clauses.now)
    c.sets_denial.result c.or_else.result c.sets_denial.ensures (search rules)
