-- `asks::tag_asks` meets its contract, by the table's rule. Assumes nothing.
use Rattle.rules.proofs.AskLaws.{tag-entry}
use Rattle.rules.proofs.asks.tag_asks.Goals as goal
use native.Mathlib.Omega.{arith}

pub returns : goal.returns
returns c = tag-entry c.args.tag c.args.n (omega arith) (omega arith)
