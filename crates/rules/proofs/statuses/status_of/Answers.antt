-- `statuses::status_of` meets its contract: the rule opened once, and the tests put in. Assumes nothing.
use Rattle.rules.proofs.StatusLaws.{code_fits, status-is}
use Rattle.rules.proofs.statuses.status_of.Goals as goal
use Rattle.std.proofs.Common.{arith, sym, ◌∙◌}

pub overflow_cast-result : goal.overflow_cast-result
overflow_cast-result c = omega (arith, code_fits c.args.s.now (sym c.is_number.ensures ∙ c.if-is_number.true))

pub returns-then-mark : goal.returns-then-mark
returns-then-mark c = rw (status-is c.args.s.now) (grind arith)

pub returns-else-is_number : goal.returns-else-is_number
returns-else-is_number c = rw (status-is c.args.s.now) (grind arith)
