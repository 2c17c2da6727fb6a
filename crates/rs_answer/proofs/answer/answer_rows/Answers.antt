use Rattle.rs_answer.proofs.Answered.{answer_given, answer_denied}
use Rattle.rs_answer.proofs.answer.answer_rows.Goals as goal

pub returns-in-Ok : goal.returns-in-Ok
returns-in-Ok c = answer_given c.args.shape.now c.args.joined c.in-Ok.rows c.in-Ok.ensures.0 c.in-Ok.ensures.1

pub returns-in-Err-Fault : goal.returns-in-Err-Fault
returns-in-Err-Fault c = answer_denied c.args.shape.now c.args.joined (simp c.in-Err-Fault.field-0-is at c.in-Err-Fault.ensures)
