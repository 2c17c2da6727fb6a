use Rattle.std.proofs.Common.{◌≡◌, take}
use Rattle.rs_access.specs.Access.{listed}
use Rattle.rs_access.proofs.value_list.ValueList.new.Given as goal

abbrev pub invariant-loop-value : goal.invariant-loop-value
invariant-loop-value l = l.numbers.keys ≡ listed (take l.value-index l.values) l.index.pairs
