use Rattle.std.proofs.Common.{rules}
use Rattle.rs_lock.proofs.Positions.{position_or_end}
use Rattle.rs_lock.proofs.lock.Lock.upgrades.Goals as goal

pub returns-clause-count : goal.returns-clause-count
returns-clause-count c = search (rules, position_or_end)
