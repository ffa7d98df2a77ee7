-- By the case of the answer. Assumes nothing.
use Rattle.lines.proofs.answering.put_text.Goals as goal
use Rattle.lines.specs.Program.{answer_text}

pub returns-in-Ok : goal.returns-in-Ok
unfolding answer_text
returns-in-Ok c = rw (c.in-Ok.is, ← c.shown_number.ensures) c.put_accepted.ensures

pub returns-in-Err : goal.returns-in-Err
unfolding answer_text
returns-in-Err c = rw (c.in-Err.is, ← c.number.ensures) c.put_refused.ensures
