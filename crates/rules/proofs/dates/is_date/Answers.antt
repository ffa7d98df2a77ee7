-- `dates::is_date` meets its contract: behind the day stands the time. Assumes nothing.
use Rattle.rules.proofs.dates.is_date.Goals as goal
use Rattle.rules.specs.Date.{date_rule, time}
use Rattle.std.proofs.Common.{arith}

pub returns-then-has_day : goal.returns-then-has_day
unfolding date_rule
returns-then-has_day c = grind (arith, c.has_day.ensures time)

pub returns-else-has_day : goal.returns-else-has_day
unfolding date_rule
returns-else-has_day c = grind (arith, c.has_day.ensures time)
