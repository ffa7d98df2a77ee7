-- `dates::is_leap` meets its contract: the definition opened, and the tests put in. Assumes nothing.
use Rattle.rules.proofs.dates.is_leap.Goals as goal
use Rattle.rules.specs.Date.{leap}
use Rattle.std.proofs.Common.{arith}

pub returns-then-y-ne0 : goal.returns-then-y-ne0
unfolding leap
returns-then-y-ne0 c = grind arith

pub returns-else-y-ne0 : goal.returns-else-y-ne0
unfolding leap
returns-else-y-ne0 c = grind arith

pub returns-else-y-eq0 : goal.returns-else-y-eq0
unfolding leap
returns-else-y-eq0 c = grind arith
