use Rattle.std.proofs.Common.{◌≡◌, map, take}
use Rattle.rs_plain.specs.Plain.{plain_rows}
use Rattle.rs_plain.proofs.plain.all_rows.Given as goal

abbrev pub invariant-loop-name : goal.invariant-loop-name
invariant-loop-name l = l.found.items ≡ map (plain_rows l.tables) (take l.name-index l.names)
