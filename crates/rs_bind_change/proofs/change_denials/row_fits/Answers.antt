use Rattle.std.proofs.Common.{◌∙◌, arith}
use Rattle.rs_bind_change.specs.Denials.{term_fits}
use Rattle.rs_bind_change.proofs.Pairs.{all_pairs_pointwise}
use Rattle.rs_bind_change.proofs.change_denials.row_fits.Goals as goal

pub returns-then-row-scope : goal.returns-then-row-scope
returns-then-row-scope c = c.each_fits.ensures ∙ all_pairs_pointwise (term_fits c.args.params.now) c.args.row.now c.args.scope.now (omega arith)
