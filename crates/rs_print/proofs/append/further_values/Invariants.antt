use Rattle.std.proofs.Common.{◌≡◌, ◌++◌, take}
use Rattle.std.specs.Prelude.{flat_map}
use Rattle.rs_print.specs.Replies.{further_value}
use Rattle.rs_print.proofs.append.further_values.Given as goal

abbrev pub invariant-loop-next : goal.invariant-loop-next
invariant-loop-next l = l.out ≡ l.fn.out ++ flat_map further_value (take l.next-index l.row)
