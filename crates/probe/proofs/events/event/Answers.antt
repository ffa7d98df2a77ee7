-- By the kind of event. Assumes nothing.
use Rattle.probe.proofs.EventLaws.{is-message, is-tick}
use Rattle.probe.proofs.events.event.Goals as goal
use lib.ListN.{take}

pub returns-then-tick : goal.returns-then-tick
returns-then-tick c =
    let x = c.args in
    rw (← is-tick x.ceiling (take x.size x.held.now) x.tick x.time x.s.now c.if-tick.true) c.tick_on.ensures

pub returns-else-tick : goal.returns-else-tick
returns-else-tick c =
    let x = c.args in
    rw (← is-message x.ceiling (take x.size x.held.now) x.tick x.time x.s.now c.if-tick.false) c.message_on.ensures
