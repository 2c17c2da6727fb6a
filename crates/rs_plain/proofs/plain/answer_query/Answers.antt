use Rattle.std.proofs.Common.{rules, arith}
use Rattle.std.proofs.lemmas.Grind.{common_steps}
use Rattle.rs_eval.proofs.Unfilled.{clauses_stay}
use Rattle.rs_plain.proofs.plain.answer_query.Goals as goal

pub returns : goal.returns
returns c = rw c.in-Select.is (rw (clauses_stay c.in-Select.clauses) (first_of (search rules, grind (arith, common_steps))))
