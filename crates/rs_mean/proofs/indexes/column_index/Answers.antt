use Rattle.std.proofs.Common.{rules}
use Rattle.rs_scope.proofs.Positions.{position_or_end}
use Rattle.rs_mean.proofs.indexes.column_index.Goals as goal

pub returns : goal.returns
returns c = search (rules, position_or_end)
