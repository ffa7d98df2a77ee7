-- `texts::is_desk` meets its contract: the definition opened, and the tests put in. Assumes nothing.
use Rattle.rules.proofs.texts.is_desk.Goals as goal
use Rattle.rules.specs.Pieces.{piece_end, has_piece, reads}
use Rattle.rules.specs.Texts.{desk_rule}
use Rattle.std.proofs.Common.{arith}

pub returns-then-stands_at : goal.returns-then-stands_at
unfolding desk_rule reads has_piece piece_end
returns-then-stands_at c = grind arith

pub returns-else-stands_at : goal.returns-else-stands_at
unfolding desk_rule reads has_piece piece_end
returns-else-stands_at c = grind arith
