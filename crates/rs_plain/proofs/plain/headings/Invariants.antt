use Rattle.std.proofs.Common.{◌≡◌, map, take}
use Rattle.rs_plain.specs.Plain.{plain_heading}
use Rattle.rs_plain.proofs.plain.headings.Given as goal

abbrev pub invariant-loop-name : goal.invariant-loop-name
invariant-loop-name l = l.headings ≡ map (plain_heading l.tables) (take l.name-index l.names)
