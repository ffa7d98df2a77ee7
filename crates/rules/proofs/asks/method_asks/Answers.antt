-- `asks::method_asks` meets its contract, by the tables' rule. Assumes nothing.
use Rattle.rules.proofs.AskLaws.{method-entry}
use Rattle.rules.proofs.asks.method_asks.Goals as goal
use native.Mathlib.Omega.{arith}

pub returns : goal.returns
returns c = method-entry c.args.method c.args.n (omega arith) (omega arith)
