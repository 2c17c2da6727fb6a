-- The fields of a table's rows.
use Rattle.std.specs.Prelude.{◌≡◌}
use Rattle.rs_rows.specs.TableRows.{TableRows, IsTable, bytes_of}
use Rattle.rs_rows.specs.declared.table_rows.TableRows.TheInside.{Inside}

abbrev pub table_of : Inside → TableRows
table_of a = a.rows

-- it is a table, and the stored size is that of its rows
pub record IsKept (a : Inside) : Type 0 where
  pub table : IsTable a.rows
  pub bytes : a.bytes ≡ bytes_of a.rows.rows
