use Rattle.std.proofs.Common.{◌≡◌, map, take}
use Rattle.rs_bind.specs.Entries.{heading_of}
use Rattle.rs_bind.proofs.statements.headings_of.Given as goal

abbrev pub invariant-loop-entry : goal.invariant-loop-entry
invariant-loop-entry l = l.headings ≡ map heading_of (take l.entry-index l.entries)
