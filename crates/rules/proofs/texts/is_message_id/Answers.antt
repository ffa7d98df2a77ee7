-- `texts::is_message_id` meets its contract: the definition opened, and the tests put in. Assumes nothing.
use Rattle.rules.proofs.texts.is_message_id.Goals as goal
use Rattle.rules.specs.Pieces.{piece_end, has_piece, reads}
use Rattle.rules.specs.Texts.{message_id_rule}
use Rattle.std.proofs.Common.{arith}

pub returns-then-stands_at-2 : goal.returns-then-stands_at-2
unfolding message_id_rule reads has_piece piece_end
returns-then-stands_at-2 c = grind arith

pub returns-else-stands_at-2 : goal.returns-else-stands_at-2
unfolding message_id_rule reads has_piece piece_end
returns-else-stands_at-2 c = grind arith
