use Rattle.std.proofs.Common.{◌≡◌, map, take}
use Rattle.rs_bind.specs.Entries.{defined}
use Rattle.rs_bind.proofs.definitions.column_defs.Given as goal

abbrev pub invariant-loop-column : goal.invariant-loop-column
invariant-loop-column l = l.defs ≡ map defined (take l.column-index l.columns)
