-- `pieces::is_number` meets its contract: the definition opened, and the tests put in. Assumes nothing.
use Rattle.octets.specs.Class.{among}
use Rattle.rules.proofs.pieces.is_number.Goals as goal
use Rattle.rules.specs.Pieces.{has_piece}
use Rattle.std.proofs.Common.{arith}

pub returns-then-lo-v : goal.returns-then-lo-v
unfolding has_piece among
returns-then-lo-v c = grind arith

pub returns-else-lo-v : goal.returns-else-lo-v
unfolding has_piece among
returns-else-lo-v c = grind arith
