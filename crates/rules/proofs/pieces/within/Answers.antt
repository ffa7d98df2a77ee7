-- `pieces::within` meets its contract: the definition opened, and the tests put in. Assumes nothing.
use Rattle.octets.specs.Class.{among}
use Rattle.rules.proofs.pieces.within.Goals as goal
use Rattle.rules.specs.Pieces.{within}
use Rattle.std.proofs.Common.{arith}

pub returns-then-holds : goal.returns-then-holds
unfolding within among
returns-then-holds c = grind arith

pub returns-else-holds : goal.returns-else-holds
unfolding within among
returns-else-holds c = grind arith
