use Rattle.std.proofs.Common.{rules, arith}
use Rattle.std.proofs.lemmas.Grind.{common_steps}
use Rattle.rs_eval.proofs.Unfilled.{clauses_stay}
use Rattle.rs_plain.proofs.plain.answer_over.Goals as goal

pub returns-in_ok-selected-in-Select : goal.returns-in_ok-selected-in-Select
returns-in_ok-selected-in-Select c = rw c.in-Select.is (rw (clauses_stay c.in-Select.clauses) (first_of (search rules, grind (arith, common_steps))))

pub returns-in_ok-new-in-Update : goal.returns-in_ok-new-in-Update
returns-in_ok-new-in-Update c = rw c.in-Update.is (rw (clauses_stay c.in-Update.clauses) (first_of (search rules, grind (arith, common_steps))))

pub returns-in-Delete : goal.returns-in-Delete
returns-in-Delete c = rw c.in-Delete.is (rw (clauses_stay c.in-Delete.clauses) (first_of (search rules, grind (arith, common_steps))))
