use Rattle.std.proofs.Common.{◌≡◌, true, take}
use Rattle.std.specs.List.{list_all}
use Rattle.rs_eval.specs.Setting.{is_stored, set_value, with_sets}
use Rattle.rs_eval.proofs.setting.set_row.Given as goal

abbrev pub invariant-loop-set : goal.invariant-loop-set
invariant-loop-set l =
    (l.new ≡ with_sets (take l.set-index l.sets) l.values l.row) × (list_all (λ set. is_stored (set_value l.values l.row set)) (take l.set-index l.sets) ≡ true)
