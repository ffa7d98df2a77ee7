-- `dates::is_zone` meets its contract: the definition opened, and the tests put in. Assumes nothing.
use Rattle.rules.proofs.dates.is_zone.Goals as goal
use Rattle.rules.specs.Pieces.{piece_end, has_piece, reads}
use Rattle.std.proofs.Common.{arith}

pub returns-then-is_number-2 : goal.returns-then-is_number-2
unfolding reads has_piece piece_end
returns-then-is_number-2 c = grind arith

pub returns-else-is_number-2 : goal.returns-else-is_number-2
unfolding reads has_piece piece_end
returns-else-is_number-2 c = grind arith
