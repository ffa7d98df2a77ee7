-- `addresses::is_caller` meets its contract: the rule opened once, and the tests put in. Assumes nothing.
use Rattle.rules.proofs.AddressLaws.{caller-is}
use Rattle.rules.proofs.addresses.is_caller.Goals as goal
use Rattle.std.proofs.Common.{arith}

pub returns-then-stands_at-2 : goal.returns-then-stands_at-2
returns-then-stands_at-2 c = rw (caller-is c.args.s.now c.args.user c.args.fire c.requires.0 c.requires.1.0) (grind arith)

pub returns-else-stands_at-2 : goal.returns-else-stands_at-2
returns-else-stands_at-2 c = rw (caller-is c.args.s.now c.args.user c.args.fire c.requires.0 c.requires.1.0) (grind arith)
