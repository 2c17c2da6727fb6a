use Rattle.std.proofs.Common.{◌≡◌, ◌++◌, take}
use Rattle.std.specs.Prelude.{flat_map}
use Rattle.rs_print.specs.Replies.{printed_row}
use Rattle.rs_print.proofs.append.rows.Given as goal

abbrev pub invariant-loop-each : goal.invariant-loop-each
invariant-loop-each l = l.out ≡ l.fn.out ++ flat_map printed_row (take l.each-index l.rows)
