-- `pieces::fixed_or` meets its contract: by its test. Assumes nothing.
use Rattle.letters.proofs.pieces.fixed_or.Goals as goal
use borrow.Author.Tests.{eq-eqb, ne_eqb}

pub returns-then-n-w : goal.returns-then-n-w
returns-then-n-w c = rw (← c.rest.ensures.0, ← c.common-n.ensures.0, eq-eqb _ _ c.if-n-w.true)

pub returns-else-n-w : goal.returns-else-n-w
returns-else-n-w c = rw (← c.rest.ensures.0, ← c.common-n.ensures.0, ne_eqb _ _ c.if-n-w.false)
