-- `addresses::is_callee` meets its contract: the rule opened once, and the tests put in. Assumes nothing.
use Rattle.rules.proofs.AddressLaws.{callee-is}
use Rattle.rules.proofs.addresses.is_callee.Goals as goal
use Rattle.std.proofs.Common.{arith}

pub returns-then-stands_at-2 : goal.returns-then-stands_at-2
returns-then-stands_at-2 c = rw (callee-is c.args.s.now c.args.fire c.requires.0) (grind arith)

pub returns-else-stands_at-2 : goal.returns-else-stands_at-2
returns-else-stands_at-2 c = rw (callee-is c.args.s.now c.args.fire c.requires.0) (grind arith)
