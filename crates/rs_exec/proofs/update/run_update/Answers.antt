use Rattle.std.proofs.Common.{◌≡◌, true, false, length, sym, ◌∙◌, ◌-◌, Ok}
use Rattle.std.proofs.lemmas.Result.{IfOk-weaker}
use Rattle.rs_rows.specs.TableRows.{bytes_of}
use Rattle.rs_exec.specs.Room.{has_room_beside}
use Rattle.rs_exec.specs.Running as spec
use Rattle.rs_exec.proofs.Changing.{update_fits, update_full}
use Rattle.rs_exec.proofs.update.run_update.Goals as goal

pub returns-in-Ok : goal.returns-in-Ok
returns-in-Ok g c = λ clauses matches.
    let rows = g.R.ReadRows.rows c.args.rows.now in
    let old = c.args.matching.now in
    let made : Ok c.in-Ok.new ≡ spec.set_rows c.args.sets.now c.args.values.now old = sym c.in-Ok.is ∙ c.in_ok-new.ensures in
    let fits : has_room_beside (length rows - length old) (bytes_of rows - bytes_of old) (spec.plain c.in-Ok.new) ≡ true = cc in
    IfOk-weaker c.replace.result _ _ (λ ran same. same ∙ update_fits c.args.name clauses rows old matches c.in-Ok.new _ made fits) c.replace.ensures

pub returns-in-Ok-2 : goal.returns-in-Ok-2
returns-in-Ok-2 g c = λ clauses matches.
    let rows = g.R.ReadRows.rows c.args.rows.now in
    let old = c.args.matching.now in
    let made : Ok c.in-Ok.new ≡ spec.set_rows c.args.sets.now c.args.values.now old = sym c.in-Ok.is ∙ c.in_ok-new.ensures in
    let full : has_room_beside (length rows - length old) (bytes_of rows - bytes_of old) (spec.plain c.in-Ok.new) ≡ false = cc in
    update_full c.args.name clauses rows old matches c.in-Ok.new _ made full
