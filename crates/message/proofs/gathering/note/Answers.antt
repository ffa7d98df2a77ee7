-- `message::gathering::note` meets its contract. By its definition. Assumes nothing.
use Rattle.message.proofs.gathering.note.Goals as goal
use borrow.Author.Tests.{eq-eqb, ne_eqb}

pub returns-then-k-ne0 : goal.returns-then-k-ne0
returns-then-k-ne0 c = rw (ne_eqb _ _ c.if-k-ne0.true)

pub returns-else-k-ne0 : goal.returns-else-k-ne0
returns-else-k-ne0 c = rw (eq-eqb _ _ c.if-k-ne0.false)
