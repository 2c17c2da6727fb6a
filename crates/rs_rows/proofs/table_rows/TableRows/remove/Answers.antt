use Rattle.std.proofs.Common.{sym, arith}
use Rattle.rs_rows.proofs.TableLaws.{kept_removed}
use Rattle.rs_rows.proofs.table_rows.TableRows.remove.Goals as goal

pub overflow_sub-self : goal.overflow_sub-self
overflow_sub-self c =
    let size = rw c.as_slice.ensures at c.row_size.ensures in
    (kept_removed c.args.number c.in_ok-row.row c.self.inside.rows _ _ _ c.self.invariant.table c.self.invariant.bytes c.in_ok-row.ensures.rows c.in_ok-row.ensures.rising (sym c.in_ok-row.ensures.row) size).within

pub invariant_of-self-2 : goal.invariant_of-self-2
invariant_of-self-2 c =
    let size = rw c.as_slice.ensures at c.row_size.ensures in
    let kept = kept_removed c.args.number c.in_ok-row.row c.self.inside.rows _ _ _ c.self.invariant.table c.self.invariant.bytes c.in_ok-row.ensures.rows c.in_ok-row.ensures.rising (sym c.in_ok-row.ensures.row) size in
    record { table = assumption kept.left; bytes = omega (arith, kept.exact) }
