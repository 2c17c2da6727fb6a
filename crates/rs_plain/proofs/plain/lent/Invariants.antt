use Rattle.std.proofs.Common.{◌≡◌, take}
use Rattle.rs_plain.proofs.plain.lent.Given as goal

abbrev pub invariant-loop-rows : goal.invariant-loop-rows
invariant-loop-rows l = l.lent.items ≡ take l.rows-index l.tables
