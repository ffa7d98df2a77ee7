-- `texts::message_tail` meets its contract: the definition opened, and the tests put in. Assumes nothing.
use Rattle.rules.proofs.texts.message_tail.Goals as goal
use Rattle.rules.specs.Pieces.{piece_end, has_piece, reads}
use Rattle.std.proofs.Common.{arith}

pub returns-then-within-2 : goal.returns-then-within-2
unfolding reads has_piece piece_end
returns-then-within-2 c = grind arith

pub returns-else-within-2 : goal.returns-else-within-2
unfolding reads has_piece piece_end
returns-else-within-2 c = grind arith
