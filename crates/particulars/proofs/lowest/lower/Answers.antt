-- `particulars::lowest::lower` meets its contract, by its definition. Assumes nothing.
use Rattle.particulars.proofs.lowest.lower.Goals as goal
use Rattle.particulars.specs.Lowest.{lower}
use borrow.Author.Tests.{le-leb, lt-leb}

pub returns-in-None-default : goal.returns-in-None-default
unfolding lower
returns-in-None-default c = rw c.in-None-default.is-0

pub returns-in-Some-None : goal.returns-in-Some-None
unfolding lower
returns-in-Some-None c = rw (c.in-Some-None.is-0, c.in-Some-None.is-1)

pub returns-then-p-q : goal.returns-then-p-q
unfolding lower
returns-then-p-q c = rw (c.in-Some-Some.is-0, c.in-Some-Some.is-1, le-leb c.in-Some-Some.p c.in-Some-Some.q c.if-p-q.true)

pub returns-else-p-q : goal.returns-else-p-q
unfolding lower
returns-else-p-q c = rw (c.in-Some-Some.is-0, c.in-Some-Some.is-1, lt-leb c.in-Some-Some.p c.in-Some-Some.q c.if-p-q.false)
