use Rattle.std.proofs.Common.{[], ◌∷◌, drop, map}
use Rattle.rs_answer.proofs.Progress.{Progress}
use Rattle.rs_answer.proofs.groups.each_alone.Given as goal

abbrev pub invariant-loop-row : goal.invariant-loop-row
invariant-loop-row l = Progress l.items l.given.items (map (λ row. row ∷ []) (drop l.row-index l.rows)) (map (λ row. row ∷ []) l.rows)
