-- `dates::is_day` meets its contract: behind the day stands the end. Assumes nothing.
use Rattle.rules.proofs.dates.is_day.Goals as goal
use Rattle.rules.specs.Date.{day_rule}
use Rattle.rules.specs.Pieces.{reads}
use Rattle.std.proofs.Common.{[], arith}

pub returns-then-has_day : goal.returns-then-has_day
unfolding day_rule reads
returns-then-has_day c = grind (arith, c.has_day.ensures [])

pub returns-else-has_day : goal.returns-else-has_day
unfolding day_rule reads
returns-else-has_day c = grind (arith, c.has_day.ensures [])
