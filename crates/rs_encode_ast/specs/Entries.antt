-- The forms of column definitions and catalog entries.
use Rattle.rs_ast.specs.declared.column.ColDef.{ColDef}
use Rattle.rs_ast.specs.declared.entry.Column.{Column}
use Rattle.rs_ast.specs.declared.entry.Entry.{Entry}
use Rattle.rs_ast.specs.declared.entry.IndexOf.{IndexOf}
use Rattle.rs_base.specs.declared.name.Swn.{Swn}
use Rattle.rs_base.specs.declared.txn.Txn.{Txn}
use Rattle.rs_base.specs.declared.value.Kind.{Kind}
use Rattle.rs_encode.specs.Form.{Form, both, list, via}
use Rattle.rs_encode.specs.Values.{count_below, eight_bytes, ident, kind, site, swn, txn}
use Rattle.std.specs.Prelude.{List, ℕ}

abbrev pub col_def_of : (List ℕ) × Kind → ColDef
col_def_of f = record { name = f.0; kind = f.1 }

abbrev pub col_def_parts : ColDef → (List ℕ) × Kind
col_def_parts x = (x.name, x.kind)

-- a column definition
unfoldable pub col_def : Form ColDef
col_def = via col_def_of col_def_parts (both ident kind)

abbrev pub column_of : (List ℕ) × (Kind × ℕ) → Column
column_of f = record { name = f.0; kind = f.1.0; distinct = f.1.1 }

abbrev pub column_parts : Column → (List ℕ) × (Kind × ℕ)
column_parts x = (x.name, (x.kind, x.distinct))

-- a column of a catalog entry
unfoldable pub column : Form Column
column = via column_of column_parts (both ident (both kind eight_bytes))

abbrev pub index_of_of : (List ℕ) × (ℕ × Txn) → IndexOf
index_of_of f = record { name = f.0; column = f.1.0; made = f.1.1 }

abbrev pub index_of_parts : IndexOf → (List ℕ) × (ℕ × Txn)
index_of_parts x = (x.name, (x.column, x.made))

-- an index
unfoldable pub index_of : Form IndexOf
index_of = via index_of_of index_of_parts (both ident (both (count_below 256) txn))

abbrev pub entry_of : Swn × (Txn × (ℕ × ((List Column) × ((List IndexOf) × ℕ)))) → Entry
entry_of f =
    record { name = f.0; made = f.1.0; place = f.1.1.0; columns = f.1.1.1.0; indexes = f.1.1.1.1.0; count = f.1.1.1.1.1 }

abbrev pub entry_parts : Entry → Swn × (Txn × (ℕ × ((List Column) × ((List IndexOf) × ℕ))))
entry_parts x = (x.name, (x.made, (x.place, (x.columns, (x.indexes, x.count)))))

-- a catalog entry
unfoldable pub entry : Form Entry
entry = via entry_of entry_parts (both swn (both txn (both site (both (list column) (both (list index_of) eight_bytes)))))
