use Rattle.std.proofs.Common.{length}
use Rattle.rs_answer.specs.Groups.{group_cmp, group_values, grouped_by}
use Rattle.rs_answer.proofs.Arranged.{Rising}
use Rattle.rs_answer.proofs.Progress.{Progress}
use Rattle.rs_answer.proofs.groups.each_run.Given as goal

abbrev pub invariant-loop-rest : goal.invariant-loop-rest
invariant-loop-rest l =
    Progress l.items l.given.items (grouped_by l.column_indexes l.rest) (grouped_by l.column_indexes l.rows)
    × Rising (λ one other. group_cmp (group_values l.column_indexes one) (group_values l.column_indexes other)) l.rest

abbrev pub decreases-loop-rest : goal.decreases-loop-rest
decreases-loop-rest l = length l.rest
