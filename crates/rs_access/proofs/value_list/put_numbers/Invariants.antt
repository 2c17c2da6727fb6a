use Rattle.std.proofs.Common.{◌≡◌}
use Rattle.rs_ast.specs.declared.clause.Op.TheVariants as ops
use Rattle.rs_access.specs.Access.{put_all}
use Rattle.rs_index.specs.Pairs.{range_of}
use Rattle.rs_access.proofs.value_list.put_numbers.Given as goal

abbrev pub invariant-loop-number : goal.invariant-loop-number
invariant-loop-number l = put_all l.numbers.keys l.number-iterator ≡ put_all l.fn.numbers.keys (range_of ops.Eq l.value l.index.pairs)
