-- `pieces::run_or` meets its contract: by its test. Assumes nothing.
use Rattle.letters.proofs.pieces.run_or.Goals as goal

pub returns-then-within : goal.returns-then-within
returns-then-within c = rw (← c.within.ensures, c.if-within.true)

pub returns-else-within : goal.returns-else-within
returns-else-within c = rw (← c.within.ensures, c.if-within.false)
