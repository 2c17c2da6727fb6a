use Rattle.std.proofs.Common.{◌≡◌, ◌&&◌, Bool, true, false, sym, ap, ◌∙◌}
use Rattle.std.specs.List.{list_all}
use Rattle.rs_rows.specs.Limits.{fits_row}
use Rattle.rs_exec.specs.Room.{fits_table}
use Rattle.rs_exec.proofs.Changing.{room_by_parts}
use Rattle.rs_exec.proofs.room.has_room_beside.Goals as goal

pub returns-then-each_fits : goal.returns-then-each_fits
returns-then-each_fits g c =
    let values = g.T.AsValues.values in
    let new = c.args.new.now in
    let all : list_all (λ row. fits_row (values row)) new ≡ true = sym c.each_fits.ensures ∙ c.if-each_fits.true in
    c.fits_table.ensures
    ∙ ap (λ (each : Bool). each && fits_table c.saturating_add-count.result c.saturating_add-bytes.result) (sym all)
    ∙ room_by_parts values new _ _ _ _ _ c.size_of_rows.ensures c.saturating_add-count.ensures c.saturating_add-bytes.ensures

pub returns-else-each_fits : goal.returns-else-each_fits
returns-else-each_fits g c =
    let values = g.T.AsValues.values in
    let new = c.args.new.now in
    let all : list_all (λ row. fits_row (values row)) new ≡ false = sym c.each_fits.ensures ∙ c.if-each_fits.false in
    c.if-each_fits.false
    ∙ ap (λ (each : Bool). each && fits_table c.saturating_add-count.result c.saturating_add-bytes.result) (sym all)
    ∙ room_by_parts values new _ _ _ _ _ c.size_of_rows.ensures c.saturating_add-count.ensures c.saturating_add-bytes.ensures
