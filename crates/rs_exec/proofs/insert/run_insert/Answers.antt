use Rattle.std.proofs.Common.{◌≡◌, true, length, map, ap, ◌∙◌}
use Rattle.std.proofs.lemmas.Result.{IfOk-weaker}
use Rattle.rs_rows.specs.TableRows.{bytes_of}
use Rattle.rs_exec.specs.Room.{has_room_beside}
use Rattle.rs_exec.specs.Running.{appended}
use Rattle.rs_exec.proofs.Changing.{insert_fits}
use Rattle.rs_exec.proofs.insert.run_insert.Goals as goal

pub returns-then-has_room_beside : goal.returns-then-has_room_beside
returns-then-has_room_beside g c =
    let rows = g.R.ReadRows.rows c.args.rows.now in
    let fits : has_room_beside (length rows) (bytes_of rows) (map (λ row. row) c.in_ok-new.new) ≡ true = cc in
    IfOk-weaker c.append.result _ _ (λ ran same. same ∙ ap (appended c.args.name) (insert_fits c.args.values.now c.args.bound.now rows c.in_ok-new.new c.in_ok-new.ensures fits)) c.append.ensures
