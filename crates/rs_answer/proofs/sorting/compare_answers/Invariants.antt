use Rattle.std.proofs.Common.{◌≡◌, drop}
use Rattle.rs_answer.specs.Sorting.{answer_cmp}
use Rattle.rs_answer.proofs.sorting.compare_answers.Given as goal

abbrev pub invariant-loop-key : goal.invariant-loop-key
invariant-loop-key l = answer_cmp (drop l.key-index l.keys) l.one l.other ≡ answer_cmp l.keys l.one l.other
