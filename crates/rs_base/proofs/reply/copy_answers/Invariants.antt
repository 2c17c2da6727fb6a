use Rattle.std.proofs.Common.{◌≡◌, take}
use Rattle.rs_base.proofs.reply.copy_answers.Given as goal

abbrev pub invariant-loop-answer : goal.invariant-loop-answer
invariant-loop-answer l = l.copy ≡ take l.answer-index l.answers
