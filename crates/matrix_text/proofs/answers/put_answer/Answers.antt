-- `put_answer` prints what is printed of each answer of `plan`: by the cases of the answer. Assumes nothing.
use Rattle.matrix_text.specs.Writes.{answer_text}
use Rattle.matrix_text.proofs.answers.put_answer.Goals as goal

pub returns-in-Err : goal.returns-in-Err
unfolding answer_text
returns-in-Err c = rw (c.in-Err.is, answer_text) c.put_refused.ensures

pub returns-in-Ok : goal.returns-in-Ok
unfolding answer_text
returns-in-Ok c = rw (c.in-Ok.is, c.if-whole.true, answer_text) c.put_plan.ensures

pub returns-in-Ok-2 : goal.returns-in-Ok-2
unfolding answer_text
returns-in-Ok-2 c = rw (c.in-Ok.is, c.if-whole.false, answer_text) c.put_bad_input.ensures
