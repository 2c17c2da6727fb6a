use Rattle.std.proofs.Common.{◌≡◌, ◌++◌, flat_map, take}
use Rattle.rs_unparse.specs.Unparsed.{unparsed_step}
use Rattle.rs_unparse.proofs.unparse.stmt.steps.Given as goal

abbrev pub invariant-loop-dml : goal.invariant-loop-dml
invariant-loop-dml l = l.out ≡ l.fn.out ++ flat_map unparsed_step (take l.dml-index l.body)
