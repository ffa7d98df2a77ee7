-- `pieces::follows` meets its contract: the definition opened, and the tests put in. Assumes nothing.
use Rattle.letters.proofs.pieces.follows.Goals as goal
use Rattle.letters.specs.inner.Reach.{follows}
use Rattle.std.proofs.Common.{arith}

pub returns-then-holds-2 : goal.returns-then-holds-2
unfolding follows
returns-then-holds-2 c = grind arith

pub returns-else-holds-2 : goal.returns-else-holds-2
unfolding follows
returns-else-holds-2 c = grind arith

pub returns-else-holds : goal.returns-else-holds
unfolding follows
returns-else-holds c = grind arith
