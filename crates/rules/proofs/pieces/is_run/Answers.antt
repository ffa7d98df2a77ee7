-- `pieces::is_run` meets its contract: the definition opened, and the tests put in. Assumes nothing.
use Rattle.rules.proofs.pieces.is_run.Goals as goal
use Rattle.rules.specs.Pieces.{piece_end, has_piece, reads}
use Rattle.std.proofs.Common.{arith}

pub returns-then-within : goal.returns-then-within
unfolding reads has_piece piece_end
returns-then-within c = grind arith

pub returns-else-within : goal.returns-else-within
unfolding reads has_piece piece_end
returns-else-within c = grind arith
