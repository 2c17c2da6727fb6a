use Rattle.std.proofs.Common.{◌≡◌, [], map, take}
use Rattle.rs_eval.specs.Setting.{term_value}
use Rattle.rs_exec.proofs.insert.inserted_row.Given as goal

abbrev pub invariant-loop-term : goal.invariant-loop-term
invariant-loop-term l = l.row ≡ map (term_value l.values []) (take l.term-index l.terms)
