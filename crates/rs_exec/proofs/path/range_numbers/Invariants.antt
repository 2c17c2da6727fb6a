use Rattle.std.proofs.Common.{◌≡◌, ◌++◌}
use Rattle.rs_index.specs.Pairs.{range_of}
use Rattle.rs_exec.proofs.path.range_numbers.Given as goal

abbrev pub invariant-loop-number : goal.invariant-loop-number
invariant-loop-number l = l.numbers.items ++ l.number-iterator ≡ range_of l.fn.op l.value l.index.pairs
