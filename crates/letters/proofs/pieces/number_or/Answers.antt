-- `pieces::number_or` meets its contract: by its test. Assumes nothing.
use Rattle.letters.proofs.pieces.number_or.Goals as goal
use borrow.Author.Tests.{eq-eqb, ne_eqb}

pub returns-then-k-n : goal.returns-then-k-n
returns-then-k-n c = rw (← c.rest.ensures.0, ← c.number_letters-k.ensures.0, eq-eqb _ _ c.if-k-n.true)

pub returns-else-k-n : goal.returns-else-k-n
returns-else-k-n c = rw (← c.rest.ensures.0, ← c.number_letters-k.ensures.0, ne_eqb _ _ c.if-k-n.false)
