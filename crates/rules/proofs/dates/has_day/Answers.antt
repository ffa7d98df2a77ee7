-- `dates::has_day` meets its contract: the pieces opened, whatever stands behind them, and the tests put in. Assumes nothing.
use Rattle.rules.proofs.dates.has_day.Goals as goal
use Rattle.rules.specs.Pieces.{has_piece, piece_end, reads}
use Rattle.std.proofs.Common.{arith}

pub returns-then-mark-2 : goal.returns-then-mark-2
unfolding reads has_piece piece_end
returns-then-mark-2 c = λ ps. grind arith

pub returns-else-mark-2 : goal.returns-else-mark-2
unfolding reads has_piece piece_end
returns-else-mark-2 c = λ ps. grind arith
