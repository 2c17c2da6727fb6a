use Rattle.std.proofs.Common.{arith}
use Rattle.rs_rows.proofs.TableLaws.{bytes_within}
use Rattle.rs_rows.proofs.table_rows.TableRows.insert.Goals as goal

pub overflow_add-self : goal.overflow_add-self
overflow_add-self c =
    let size = rw c.as_slice.ensures at c.row_size-bytes.ensures in
    omega (arith, size, c.requires.small, c.self.invariant.bytes, bytes_within c.self.inside.rows c.self.invariant.table)
