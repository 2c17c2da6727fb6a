use Rattle.std.proofs.Common.{sym, ◌∙◌, arith}
use Rattle.rs_rows.proofs.TableLaws.{kept_replaced, found_from_ok}
use Rattle.rs_rows.proofs.table_rows.TableRows.replace.Goals as goal

pub overflow_sub-self : goal.overflow_sub-self
overflow_sub-self c =
    let size = rw c.as_slice-in-Ok.ensures at c.row_size.ensures in
    let more = rw c.as_slice.ensures at c.row_size-bytes.ensures in
    let found = found_from_ok _ _ c.in-Ok.old (sym c.swap-found.ensures.row ∙ c.in-Ok.is) in
    let kept = kept_replaced c.args.number c.in-Ok.old c.args.row c.self.inside.rows _ _ _ _ c.self.invariant.table c.self.invariant.bytes c.requires c.swap-found.ensures.rows c.swap-found.ensures.rising found size more in
    omega (arith, kept.within)

pub overflow_add-self : goal.overflow_add-self
overflow_add-self c =
    let size = rw c.as_slice-in-Ok.ensures at c.row_size.ensures in
    let more = rw c.as_slice.ensures at c.row_size-bytes.ensures in
    let found = found_from_ok _ _ c.in-Ok.old (sym c.swap-found.ensures.row ∙ c.in-Ok.is) in
    let kept = kept_replaced c.args.number c.in-Ok.old c.args.row c.self.inside.rows _ _ _ _ c.self.invariant.table c.self.invariant.bytes c.requires c.swap-found.ensures.rows c.swap-found.ensures.rising found size more in
    omega (arith, kept.fits)

pub invariant_of-self : goal.invariant_of-self
invariant_of-self c =
    let size = rw c.as_slice-in-Ok.ensures at c.row_size.ensures in
    let more = rw c.as_slice.ensures at c.row_size-bytes.ensures in
    let found = found_from_ok _ _ c.in-Ok.old (sym c.swap-found.ensures.row ∙ c.in-Ok.is) in
    let kept = kept_replaced c.args.number c.in-Ok.old c.args.row c.self.inside.rows _ _ _ _ c.self.invariant.table c.self.invariant.bytes c.requires c.swap-found.ensures.rows c.swap-found.ensures.rising found size more in
    record { table = assumption kept.left; bytes = omega (arith, kept.exact) }
