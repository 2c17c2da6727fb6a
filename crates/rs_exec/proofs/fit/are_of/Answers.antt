use Rattle.std.proofs.Common.{◌∙◌, arith}
use Rattle.rs_exec.proofs.Pairs.{all_pairs_pointwise}
use Rattle.rs_exec.proofs.fit.are_of.Goals as goal

pub returns-then-row-columns : goal.returns-then-row-columns
returns-then-row-columns c = c.each_is_of.ensures ∙ all_pairs_pointwise _ (λ column. column.kind) c.args.row.now c.args.columns.now (omega arith)
