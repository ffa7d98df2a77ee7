-- By the case of the answer. Assumes nothing.
use Rattle.showing.proofs.writers.put_head.Goals as goal
use Rattle.showing.specs.Writers.{head_of}

pub returns-in-Ok : goal.returns-in-Ok
unfolding head_of
returns-in-Ok c = rw c.in-Ok.is c.put_first.ensures

pub returns-in-Err : goal.returns-in-Err
unfolding head_of
returns-in-Err c = rw (c.in-Err.is, ← c.from.ensures) c.put_first-in-Err.ensures
