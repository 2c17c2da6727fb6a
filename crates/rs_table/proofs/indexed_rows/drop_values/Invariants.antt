use Rattle.std.proofs.Common.{◌≡◌, ◌++◌, map, take, drop}
use Rattle.rs_table.specs.IndexedRows.{without_entry}
use Rattle.rs_table.proofs.indexed_rows.drop_values.Given as goal

abbrev pub invariant-loop-index : goal.invariant-loop-index
invariant-loop-index l = l.index-items ≡ map (without_entry (l.number, l.row)) (take l.index-index l.fn.indexes.items) ++ drop l.index-index l.fn.indexes.items
