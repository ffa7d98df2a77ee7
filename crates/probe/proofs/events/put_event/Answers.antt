-- By the answer. Assumes nothing.
use Rattle.probe.proofs.events.put_event.Goals as goal
use Rattle.probe.specs.Events.{event_text}

pub returns-in-Ok : goal.returns-in-Ok
unfolding event_text
returns-in-Ok c = rw c.in-Ok.is (rw c.in-Ok.is at c.put_accepted.ensures)

pub returns-in-Err : goal.returns-in-Err
unfolding event_text
returns-in-Err c = rw c.in-Err.is c.put_refused.ensures
